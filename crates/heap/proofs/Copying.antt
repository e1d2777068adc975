-- What a copy within the heap comes to: the writer is lent the space at the offset.
use Prim.Native.Nat.{ℕ, ◌+◌, ◌-◌, ◌<◌, ◌≤◌}
use mathlib.Core.Path.{◌≡◌, ◌∙◌, ap}
use mathlib.Core.List.{List, ◌++◌}
use native.Mathlib.Nat.{add-sub_cancel_left}
use native.Mathlib.Omega.{arith}
use borrow.Author.Tests.{lt-leb}
use lib.ListN.{length, take, drop, length-drop}
use lib.Seq.{length-take-le}
use Rattle.geometry.specs.declared.Layout.{Layout}
use Rattle.geometry.specs.Layout.{heap_length}
use Rattle.request.specs.declared.Kind.{Kind}
use Rattle.answer.specs.Reply.{served}
use Rattle.rules.specs.Outcome.{reply, heap_after}
use Rattle.copies.specs.Writes.{writes}
use Rattle.rules.specs.Object.{space, copy}
use Rattle.copies.proofs.Clipping.{writes_le}
use Rattle.writing.specs.Overwrite.{overwrite}
use Rattle.writing.proofs.Fitting.{put_back}

module _ (G : Layout) (m h : List ℕ) (offset : ℕ) (kind : Kind) (source : List ℕ) {a room : ℕ} (inside : offset < heap_length G) (at : a ≡ offset)
    (measured : room ≡ space G m offset) (fits : a + room ≤ length h) where
  -- what is lent to the writer, and what it writes there
  abbrev lent_part : List ℕ
  lent_part = take (a + room - a) (drop a h)

  abbrev text : List ℕ
  text = writes kind source (length lent_part)

  roomy : length lent_part ≡ room
  roomy = rw (add-sub_cancel_left a room) (length-take-le room (drop a h) (rw length-drop (omega arith)))

  -- with that the heap is written over from the offset on
  pub copied : {n : ℕ} {ys : List ℕ} → n ≡ length text → ys ≡ overwrite lent_part 0 text
      → (served n ≡ reply G (copy G m offset kind source))
      × (take a h ++ (ys ++ drop (a + room - a) (drop a h)) ≡ heap_after G m h (copy G m offset kind source))
  unfolding copy
  copied {n} {ys} e f =
      let t : List ℕ = writes kind source room in
      let same : text ≡ t = ap (writes kind source) roomy in
      let wrote : ys ≡ overwrite (take room (drop a h)) 0 t = f ∙ rw (same, add-sub_cancel_left a room) in
      let back = put_back t (drop a h) (writes_le kind source room) (rw length-drop (omega arith)) in (
        rw (lt-leb (heap_length G) offset inside, ← measured, e, same),
        rw (lt-leb (heap_length G) offset inside, ← measured, ← at, wrote, add-sub_cancel_left a room) (ap (λ (l : List ℕ). take a h ++ l) back),
      )
