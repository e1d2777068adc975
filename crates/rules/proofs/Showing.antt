-- What a read shows lies in the heap or in the page, and its value is how many bytes that is; with plain arguments it is what the request of
-- its bytes comes to.
use Rattle.std.specs.Prelude.{Ok, Err, Some}
use Prim.Native.Nat.{ℕ, ◌^◌, ◌<◌, zero-le}
use mathlib.Core.Path.{◌≡◌, refl}
use mathlib.Core.Bool.{Bool, true, false, or-true}
use mathlib.Core.List.{List, []}
use native.Mathlib.Omega.{arith}
use borrow.Author.Tests.{leb-false}
use lib.Dec.{leb, eqb}
use lib.ListN.{length}
use Rattle.geometry.specs.declared.Layout.{Layout}
use Rattle.answer.specs.declared.Refusal.{Refusal}
use Rattle.geometry.specs.Layout.{heap_length}
use Rattle.request.specs.declared.Request.TheVariants.{Read}
use Rattle.request.specs.Parse.{request_bytes}
use Rattle.request.proofs.Parsing.{encoded}
use Rattle.view.specs.declared.View.{View}
use Rattle.view.specs.View.{Lies}
use Rattle.view.proofs.Lying.{room_lies}
use Rattle.judge.specs.Judge.{admit, Judged}
use Rattle.rules.specs.Outcome.{Outcome, shown, reply, view_of}
use Rattle.rules.specs.Object.{space}
use Rattle.rules.specs.Read.{read}
use Rattle.rules.specs.Serve.{lent_with}
use Rattle.rules.specs.Call.{Call, called_by, unserved, serving, serve, reading}
use Rattle.rules.proofs.Space.{space_within}
use Rattle.rules.proofs.Outcomes.{Comes, refuses, serves, read_comes}
use Rattle.judge.proofs.Judging.{admit_fits}
use Rattle.rules.proofs.Serving.{serving_unfit, serving_acts}

module _ (G : Layout) (m : List ℕ) (offset count page_bytes : ℕ) where
  read_lies : Lies (heap_length G) page_bytes (view_of (read G m offset count page_bytes))
  unfolding read
  read_lies = go (leb (heap_length G) offset) refl
    where
      go : (t : Bool) → leb (heap_length G) offset ≡ t → Lies (heap_length G) page_bytes (view_of (read G m offset count page_bytes))
      go true e = rw (e, read) zero-le
      go false e =
          let inside = leb-false (heap_length G) offset e in
          rw (e, read) (room_lies (heap_length G) offset (space G m offset) count page_bytes (space_within G m offset inside).0)

-- a refusal shows nothing, so its value is that length too
counted : (G : Layout) {v : View} {o : Outcome} → Comes (shown v) o → (reply G o).value ≡ (view_of o).len
counted G (refuses r) = refl
counted G serves = refl

-- for every input, refusals included
module _ (n : ℕ) (m : List ℕ) (offset count : ℕ) (page : List ℕ) where
  -- its lengths or counts are not allowed, or it is carried out
  reading_comes : (P : Call → Type 0) → ((r : Refusal) → P (unserved m r))
      → ((G : Layout) → n ≡ heap_length G → P (called_by G m (read G m offset count (length page)))) → P (reading n m offset count page)
  reading_comes P unfit acts = go (admit n m) refl
    where
      go : (j : Judged) → admit n m ≡ j → P (reading n m offset count page)
      go (Err r) e = rw (serving_unfit n m (lent_with [] page) (Some (Read offset count)) e) (unfit r)
      go (Ok G) e = rw (serving_acts n m (lent_with [] page) (Some (Read offset count)) e) (acts G (admit_fits n m e).1.heap)

  pub shown_lies : Lies n (length page) (reading n m offset count page).view
  shown_lies =
      reading_comes (λ c. Lies n (length page) c.view) (λ r. zero-le) (λ G e. rw e (read_lies G m offset count (length page)))

  pub shown_value : (reading n m offset count page).answer.value ≡ (reading n m offset count page).view.len
  shown_value =
      reading_comes (λ c. c.answer.value ≡ c.view.len) (λ r. refl) (λ G e. counted G (read_comes G m offset count (length page)))

  -- the bytes of a read ask for it, whatever source is lent
  pub read_request : (source : List ℕ) → offset < 2 ^ 32 → count < 2 ^ 32
      → serve n m (request_bytes 6 offset count) (lent_with source page) ≡ reading n m offset count page
  unfolding serving
  read_request source h k = rw (encoded 6 offset count (omega arith) h k (or-true (eqb count 0)))
