-- What a free comes to where a live slot starts, with the location as the code has it.
use Prim.Native.Nat.{ℕ, suc, ◌+◌, ◌-◌, ◌<◌, ◌≤◌}
use mathlib.Core.Path.{◌≡◌, ◌∙◌}
use mathlib.Core.Bool.{true}
use mathlib.Core.List.{List, ◌++◌}
use native.Mathlib.Nat.{add-sub_cancel_left, suc-mul}
use native.Mathlib.Omega.{arith}
use borrow.Author.Tests.{lt-leb, lt-ltb, eq-eqb, ne_eqb}
use lib.ListN.{length, take, drop, length-drop}
use lib.Seq.{length-take-le}
use Rattle.search.proofs.Tabulate.{tabulate_length}
use Rattle.geometry.specs.declared.Layout.{Layout}
use Rattle.geometry.specs.declared.Location.{Location}
use Rattle.geometry.specs.Layout.{classes, heap_length, slot_size, slots, slot_start, locate, bitmap_at}
use Rattle.geometry.proofs.Slots.{slots_class, slot_start_le, located_start}
use Rattle.bitmap.specs.Bitmap.{clear_slot}
use Rattle.writing.specs.Overwrite.{overwrite}
use Rattle.metadata.specs.Metadata.{count_of, with_count, canary_of, bitmap_of}
use Rattle.canary.specs.Canary.{canary_byte, filled}
use Rattle.rules.specs.Outcome.{freed, metadata_after, heap_after}
use Rattle.rules.specs.Object.{is_start, is_live, free}

module _ (G : Layout) (offset : ℕ) {l : Location} (at : l ≡ locate G offset) (start : l.into ≡ 0) (within : l.slot < slots G l.class) where
  begins : offset ≡ slot_start G l.class l.slot
  begins = rw at (located_start G offset (rw at at start))

  -- the slot ends within the heap
  pub slot_inside : offset + slot_size G l.class ≤ heap_length G
  slot_inside =
      let class : l.class < classes = slots_class G l.class l.slot within in
      let next : slot_start G l.class (suc l.slot) ≤ heap_length G = slot_start_le G class within in
      omega (arith, begins, suc-mul l.slot (slot_size G l.class))

  module _ (m : List ℕ) where
    pub slot_freed : offset < heap_length G → is_live G m l ≡ true → (count_of l.class m ≡ 0 → ⊥) → free G m offset ≡ freed l.class l.slot
    unfolding free
    slot_freed inside live some =
        let starts : is_start G l ≡ true = rw (eq-eqb _ _ start, lt-ltb _ _ within) in
        rw (lt-leb (heap_length G) offset inside, rw at at starts, rw at at live, rw at at (ne_eqb (count_of l.class m) 0 some), at)

    -- with its bit clear and the count lowered it is freed
    pub freed_metadata : {n : ℕ} {m₁ m₂ : List ℕ} → n ≡ count_of l.class m
        → m₁ ≡ overwrite m (bitmap_at G l.class) (clear_slot (bitmap_of G l.class m) (slots G l.class) l.slot)
        → m₂ ≡ with_count m₁ l.class (n - 1)
        → m₂ ≡ metadata_after G m (freed l.class l.slot)
    freed_metadata counted cleared lowered = lowered ∙ rw (cleared, counted)

    -- and filled
    pub freed_heap : (h : List ℕ) {ys : List ℕ} {size canary : ℕ} → length h ≡ heap_length G → size ≡ slot_size G l.class → canary ≡ canary_of m
        → ys ≡ filled canary (length (take (offset + size - offset) (drop offset h)))
        → take offset h ++ (ys ++ drop (offset + size - offset) (drop offset h)) ≡ heap_after G m h (freed l.class l.slot)
    freed_heap h {ys} {size} fits long of wrote =
        let lent : length (take size (drop offset h)) ≡ size = length-take-le size (drop offset h) (rw length-drop (omega (arith, slot_inside))) in
        let size-filled : length (filled (canary_of m) size) ≡ size = tabulate_length (canary_byte (canary_of m)) 0 size in
        let fills : ys ≡ filled (canary_of m) size = rw (of, add-sub_cancel_left offset size, lent) at wrote in
        rw (← begins, ← long, add-sub_cancel_left offset size, fills, size-filled)
