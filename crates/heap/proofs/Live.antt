-- The bytes from an offset to the end of the live object that it lies in.
use Prim.Native.Nat.{ℕ, ◌+◌, ◌-◌, ◌<◌, ◌≤◌}
use mathlib.Core.Path.{◌≡◌, sym, ◌∙◌}
use mathlib.Core.Bool.{Bool, true}
use mathlib.Core.List.{List}
use Rattle.geometry.specs.declared.Layout.{Layout}
use Rattle.geometry.specs.Layout.{heap_length, slot_size, longest_slot, locate}
use Rattle.rules.specs.Object.{is_live, space}
use Rattle.rules.proofs.Space.{space_within}

module _ (G : Layout) (m : List ℕ) (offset : ℕ) (inside : offset < heap_length G) where
  pub space_live : {t : Bool} → t ≡ is_live G m (locate G offset) → t ≡ true
      → {r : ℕ} → r ≡ slot_size G (locate G offset).class - (locate G offset).into
      → (r ≡ space G m offset) × (offset + r ≤ heap_length G) × (r ≤ longest_slot)
  unfolding space
  space_live tested live {r} e =
      let is : r ≡ space G m offset = e ∙ rw (sym tested ∙ live) in
      let (ends, small) = space_within G m offset inside in
      (is, rw is ends, rw is small)
