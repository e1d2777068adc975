-- A string that does not fit, copied into a heap: it is closed with a zero at its object's end.
use Prim.Native.Nat.{ℕ, suc, ◌+◌, ◌-◌, ◌<◌}
use mathlib.Core.Path.{◌≡◌, sym, ◌∙◌}
use mathlib.Core.Logic.{inr}
use mathlib.Core.List.{List}
use native.Mathlib.Omega.{arith}
use borrow.Author.Tests.{lt-leb}
use lib.ListN.{length, take, drop, get_or, length-take}
use lib.Seq.{get_or-take, get_or-drop}
use Rattle.scan.specs.Bytes.{index_of}
use Rattle.request.specs.declared.Kind.TheVariants.{String}
use Rattle.geometry.specs.declared.Layout.{Layout}
use Rattle.geometry.specs.Layout.{heap_length}
use Rattle.answer.specs.Reply.{served}
use Rattle.writing.specs.Overwrite.{overwrite}
use Rattle.writing.proofs.Parts.{part_here}
use Rattle.rules.specs.Outcome.{reply, heap_after}
use Rattle.copies.specs.Writes.{string_in, writes}
use Rattle.copies.proofs.Clipping.{clipped_length, string_closed}
use Rattle.rules.specs.Object.{space, copy}

module _ (G : Layout) (m h source : List ℕ) (offset : ℕ) (size : length h ≡ heap_length G) (inside : offset < heap_length G)
    (some : 0 < space G m offset) (long : space G m offset < length (string_in source)) where
  abbrev room : ℕ
  room = space G m offset

  abbrev bytes : List ℕ
  bytes = writes String source room

  filled : length bytes ≡ room
  filled = clipped_length room (string_in source) ∙ omega arith

  -- the value is the space, and the object's last byte is zero
  pub copy_closed : let o = copy G m offset String source in
      (reply G o ≡ served room) × (get_or (heap_after G m h o) (offset + (room - 1)) 1 ≡ 0)
  unfolding copy
  copy_closed =
      let longer = length-take (suc (index_of 0 source)) source in
      let after : List ℕ = overwrite h offset bytes in
      let here : take room (drop offset after) ≡ bytes = part_here h offset bytes (omega arith) room filled in
      let last : get_or bytes (room - 1) 1 ≡ 0 = rw filled at (string_closed source room some (inr (omega arith))) in
      rw (lt-leb (heap_length G) offset inside) (
        rw filled,
        sym (get_or-drop offset after (room - 1) 1) ∙ sym (get_or-take room (drop offset after) (room - 1) 1 (omega arith)) ∙ rw here last,
      )
