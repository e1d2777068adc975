-- What each operation comes to: a refusal, or the outcome that it serves.
use Prim.Native.Nat.{ℕ}
use mathlib.Core.Bool.{Bool, true, false, cond}
use mathlib.Core.List.{List, []}
use lib.ListN.{length}
use Rattle.geometry.specs.declared.Layout.{Layout}
use Rattle.geometry.specs.Layout.{class_of, locate}
use Rattle.request.specs.declared.Kind.{Kind}
use Rattle.answer.specs.declared.Refusal.{Refusal}
use Rattle.rules.specs.Outcome.{Outcome, refused, freed, told, shown}
use Rattle.rules.specs.Allocate.{taken, allocate}
use Rattle.copies.specs.Writes.{writes}
use Rattle.rules.specs.Object.{space, free, remaining, copy}
use Rattle.view.specs.View.{within}
use Rattle.rules.specs.Read.{read}

pub data Comes (o : Outcome) : Outcome → Type 0 where
  refuses : (r : Refusal) → Comes o (refused r)
  serves : Comes o o

-- a test may refuse what comes after it
guarded : {o o' : Outcome} (t : Bool) (r : Refusal) → Comes o o' → Comes o (cond t (refused r) o')
guarded true r h = refuses r
guarded false r h = h

module _ (G : Layout) (m : List ℕ) where
  -- what each operation serves
  pub allocate_comes : (size : ℕ) → Comes (taken G m (class_of G size)) (allocate G m size)
  unfolding allocate
  allocate_comes size = search (guarded, serves)

  pub free_comes : (offset : ℕ) → Comes (freed (locate G offset).class (locate G offset).slot) (free G m offset)
  unfolding free
  free_comes offset = search (guarded, serves)

  pub remaining_comes : (offset : ℕ) → Comes (told (space G m offset) offset []) (remaining G m offset)
  unfolding remaining
  remaining_comes offset = search (guarded, serves)

  pub copy_comes : (offset : ℕ) (kind : Kind) (source : List ℕ)
      → let bytes = writes kind source (space G m offset) in Comes (told (length bytes) offset bytes) (copy G m offset kind source)
  unfolding copy
  copy_comes offset kind source = search (guarded, serves)

  pub read_comes : (offset count page_bytes : ℕ)
      → Comes (shown (within offset (space G m offset) count page_bytes)) (read G m offset count page_bytes)
  unfolding read
  read_comes offset count page_bytes = search (guarded, serves)
