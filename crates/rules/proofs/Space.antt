-- The space at an offset of the heap: it ends within the heap and is no more than a slot.
use Prim.Native.Nat.{ℕ, ◌+◌, ◌<◌, ◌≤◌}
use mathlib.Core.Path.{◌≡◌, refl}
use mathlib.Core.Bool.{Bool, true, false}
use mathlib.Core.List.{List}
use native.Mathlib.Omega.{arith}
use Rattle.geometry.specs.declared.Layout.{Layout}
use Rattle.geometry.specs.Layout.{heap_length, slots, locate}
use Rattle.geometry.proofs.Geometry.{slot_size_le}
use Rattle.geometry.proofs.Slots.{slot_ends}
use Rattle.bitmap.proofs.Slot.{is_set_lem}
use Rattle.metadata.specs.Metadata.{bitmap_of}
use Rattle.rules.specs.Object.{is_live, space}

module _ (G : Layout) (m : List ℕ) (offset : ℕ) where
  -- a live slot is one of its class's
  pub live_lt : is_live G m (locate G offset) ≡ true → (locate G offset).slot < slots G (locate G offset).class
  live_lt e = (is_set_lem (bitmap_of G (locate G offset).class m) (slots G (locate G offset).class) (locate G offset).slot e).0

  pub space_within : offset < heap_length G → (offset + space G m offset ≤ heap_length G) × (space G m offset ≤ 16384)
  unfolding space
  space_within inside = go (is_live G m (locate G offset)) refl
    where
      go : (t : Bool) → is_live G m (locate G offset) ≡ t → (offset + space G m offset ≤ heap_length G) × (space G m offset ≤ 16384)
      go true e = rw (e, space) (slot_ends G offset (live_lt e) inside, omega (arith, slot_size_le G (locate G offset).class))
      go false e = rw (e, space) (omega arith, omega arith)
