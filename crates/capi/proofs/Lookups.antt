-- What the lookups of slots rest on, a slot's small numbers and the count class by class; and what they tell: a slot is
-- found exactly where it has the byte.
use Prim.Native.Nat.{ℕ, ◌+◌, ◌*◌, ◌/◌, ◌%◌, ◌≤◌, ◌<◌}
use mathlib.Core.Path.{◌≡◌, refl, ap₂}
use mathlib.Core.Bool.{Bool, true, false}
use native.Mathlib.Nat.{mul-le-mul_right, div-add-mod'}
use native.Mathlib.Numerals.{add-one}
use native.Mathlib.Omega.{arith}
use borrow.Author.Tests.{ltb-true}
use lib.Dec.{ltb}
use Rattle.geometry.specs.declared.Layout.{Layout}
use Rattle.geometry.specs.Layout.{classes, longest_region, slot_size, slots, slot_start, locate}
use Rattle.geometry.proofs.Slots.{slots_class, slot_within, slot_located, into_lt}
use Rattle.capi.specs.Slots.{slot_of, slot_at, slots_before}

module _ (G : Layout) (c i : ℕ) {n size : ℕ} (has : n ≡ slots G c) (some : i < n) (sizes : size ≡ slot_size G c) where
  -- the numbers of a slot that the class has are small
  pub slot_small : G.region ≤ longest_region
      → (c < classes) × (c * G.region ≤ 11 * longest_region) × (i * size + size ≤ longest_region)
  slot_small small =
      let there : i < slots G c = rw has at some in
      let class : c < classes = slots_class G c i there in
      let below : c * G.region ≤ 11 * G.region = mul-le-mul_right G.region (omega arith) in
      let ends : i * size + size ≤ G.region = rw sizes (slot_within G c i there) in
      (class, omega arith, omega arith)

-- one class more
pub slots_next : (G : Layout) (c : ℕ) {all n : ℕ} → all ≡ slots_before G c → n ≡ slots G c → all + n ≡ slots_before G (c + 1)
unfolding slots_before
slots_next G c before has = rw (add-one, before, has)

-- ---- which slot is found

-- a byte of a slot is found in it
pub slot_found : (G : Layout) (c i x : ℕ) → i < slots G c → slot_start G c i ≤ x → x < slot_start G c i + slot_size G c
    → slot_at G x ≡ slot_of G c i
slot_found G c i x some from to =
    let (class, slot) = slot_located G c i x some from to in
    ap₂ (slot_of G) class slot

-- a slot that is found has the byte
pub found_holds : (G : Layout) (x : ℕ) → 0 < (slot_at G x).len
    → ((slot_at G x).start ≤ x) × (x < (slot_at G x).start + (slot_at G x).len)
found_holds G x found = go (ltb (locate G x).slot (slots G (locate G x).class)) refl
  where
    go : (t : Bool) → ltb (locate G x).slot (slots G (locate G x).class) ≡ t
        → ((slot_at G x).start ≤ x) × (x < (slot_at G x).start + (slot_at G x).len)
    go false none = let no : 0 < 0 = rw none at found in absurd (omega arith)
    go true some =
        let within = into_lt G x (ltb-true (locate G x).slot (slots G (locate G x).class) some) in
        let region = div-add-mod' x G.region in
        let slot = div-add-mod' (x % G.region) (slot_size G (x / G.region)) in
        rw some (omega (arith, within, region, slot), omega (arith, within, region, slot))
