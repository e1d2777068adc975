-- Slots lie apart and within the heap, whatever the slot sizes and the region length.
use Prim.Native.Nat.{ℕ, suc, ◌+◌, ◌-◌, ◌*◌, ◌/◌, ◌%◌, ◌≤◌, ◌<◌}
use mathlib.Core.Path.{◌≡◌, ap, ◌∙◌}
use native.Mathlib.Nat.{le_refl, le_trans, pos_of_ne-zero, mul-zero, suc-mul, mul-le-mul_right, mod-lt}
use native.Mathlib.Nat.{div-zero, div-le_self, div-mul-le_self, div-add-mod', div-lt_iff_lt-mul}
use native.Mathlib.Decide.{dec_lt}
use native.Mathlib.Omega.{arith}
use lib.Arith.{digits_div, digits_mod}
use Rattle.geometry.specs.declared.Layout.{Layout}
use Rattle.geometry.specs.Layout.{classes, heap_length, slot_size, slots, slot_start, locate}
use Rattle.geometry.proofs.Geometry.{slot_size_past}

-- where there is a slot, slots have bytes
pub slot_size_pos : (G : Layout) (c i : ℕ) → i < slots G c → 0 < slot_size G c
slot_size_pos G c i h = pos_of_ne-zero (λ e. let none : slots G c ≡ 0 = rw e (div-zero G.region) in omega arith)

-- there are no more slots than a region has bytes
pub slots_le : (G : Layout) (c : ℕ) → slots G c ≤ G.region
slots_le G c = div-le_self G.region (slot_size G c)

-- only a class below the last has slots
pub slots_class : (G : Layout) (c i : ℕ) → i < slots G c → c < classes
slots_class G c i h = elim (dec_lt c classes) [
  | yes l ↦ l
  | no l ↦ absurd (omega (arith, slot_size_pos G c i h, slot_size_past G {c = c} (omega arith)))
]

-- a slot ends within its region
pub slot_within : (G : Layout) (c i : ℕ) → i < slots G c → i * slot_size G c + slot_size G c ≤ G.region
slot_within G c i h =
    rw (← suc-mul) (le_trans (mul-le-mul_right (slot_size G c) h) (div-mul-le_self G.region (slot_size G c)))

-- a slot starts within the heap; so does one right after the last
pub slot_start_le : (G : Layout) {c i : ℕ} → c < classes → i ≤ slots G c → slot_start G c i ≤ heap_length G
slot_start_le G {c} {i} h l =
    let before : i * slot_size G c ≤ slots G c * slot_size G c = mul-le-mul_right (slot_size G c) l in
    let region : slots G c * slot_size G c ≤ G.region = div-mul-le_self G.region (slot_size G c) in
    let regions : suc c * G.region ≤ heap_length G = mul-le-mul_right G.region h in
    omega (arith, suc-mul c G.region)

-- so do all slots of a class, side by side
pub slots_end_le : (G : Layout) {c : ℕ} → c < classes → c * G.region + slots G c * slot_size G c ≤ heap_length G
slots_end_le G {c} h = slot_start_le G h (le_refl (slots G c))

-- a slot ends within the heap
pub slot_inside : (G : Layout) (c i : ℕ) → i < slots G c → slot_start G c i + slot_size G c ≤ heap_length G
slot_inside G c i h =
    let next : slot_start G c (suc i) ≤ heap_length G = slot_start_le G (slots_class G c i h) h in
    omega (arith, suc-mul i (slot_size G c))

-- a byte of a slot is located there, so slots share no byte
pub slot_located : (G : Layout) (c i x : ℕ) → i < slots G c → slot_start G c i ≤ x → x < slot_start G c i + slot_size G c
    → ((locate G x).class ≡ c) × ((locate G x).slot ≡ i)
slot_located G c i x h l u =
    let s : ℕ = slot_size G c in
    let into : ℕ = x - slot_start G c i in
    let within : into < s = omega arith in
    let below : i * s + into < G.region = omega (arith, slot_within G c i h) in
    let split : x ≡ c * G.region + (i * s + into) = omega arith in
    let class : x / G.region ≡ c = ap (λ (y : ℕ). y / G.region) split ∙ digits_div c below in
    let rest : x % G.region ≡ i * s + into = ap (λ (y : ℕ). y % G.region) split ∙ digits_mod c below in
    (class, rw (class, rest) (digits_div i within))

-- an offset lies as far after its slot's start as it lies into the slot; no way into it, it is where the slot starts
pub located_at : (G : Layout) (x : ℕ) → x ≡ slot_start G (locate G x).class (locate G x).slot + (locate G x).into
located_at G x = omega (arith, div-add-mod' x G.region, div-add-mod' (x % G.region) (slot_size G (x / G.region)))

pub located_start : (G : Layout) (x : ℕ) → (locate G x).into ≡ 0 → x ≡ slot_start G (locate G x).class (locate G x).slot
located_start G x e = omega (arith, located_at G x)

-- where an offset lies in a slot, it lies before the slot's end, and the slot ends within the heap
module _ (G : Layout) (offset : ℕ) (some : (locate G offset).slot < slots G (locate G offset).class) where
  pub into_lt : (locate G offset).into < slot_size G (locate G offset).class
  into_lt = mod-lt (offset % G.region) (slot_size_pos G (offset / G.region) (locate G offset).slot some)

  pub slot_ends : offset < heap_length G
      → offset + (slot_size G (locate G offset).class - (locate G offset).into) ≤ heap_length G
  slot_ends inside =
      let class : offset / G.region < classes = (div-lt_iff_lt-mul {k = G.region} (omega arith)).1 inside in
      let regions : suc (offset / G.region) * G.region ≤ heap_length G = mul-le-mul_right G.region class in
      omega (
        arith,
        into_lt,
        suc-mul (offset / G.region) G.region,
        slot_within G (offset / G.region) (locate G offset).slot some,
        div-add-mod' offset G.region,
        div-add-mod' (offset % G.region) (slot_size G (offset / G.region)),
      )

-- the slots of a class lie side by side from its region's start on, and their bytes are located in them
module _ (G : Layout) (c x : ℕ) where
  pub slots_hold : c * G.region ≤ x → x < c * G.region + slots G c * slot_size G c
      → ((locate G x).class ≡ c) × ((locate G x).slot < slots G (locate G x).class) × (x % G.region ≡ x - c * G.region)
  slots_hold l u =
      let s : ℕ = slot_size G c in
      let into : ℕ = x - c * G.region in
      let some : 0 < s = pos_of_ne-zero (λ e. let none : slots G c * s ≡ 0 = rw (e, mul-zero) in omega arith) in
      let slot : into / s < slots G c = (div-lt_iff_lt-mul {k = s} some).1 (omega arith) in
      let split : into / s * s + into % s ≡ into = div-add-mod' into s in
      let (class, at) = slot_located G c (into / s) x slot (omega arith) (omega (arith, mod-lt into some)) in
      let rest : x / G.region * G.region ≡ c * G.region = ap (λ (r : ℕ). r * G.region) class in
      (class, rw (at, class) slot, omega (arith, rest, div-add-mod' x G.region))

  pub slots_held : (locate G x).class ≡ c → (locate G x).slot < slots G (locate G x).class
      → (c * G.region ≤ x) × (x < c * G.region + slots G c * slot_size G c)
  slots_held class slot =
      let s : ℕ = slot_size G c in
      let at : x % G.region / s < slots G c = rw class at slot in
      let rest : x / G.region * G.region ≡ c * G.region = ap (λ (r : ℕ). r * G.region) class in
      let some : 0 < s = slot_size_pos G c (x % G.region / s) at in
      let inside : x % G.region < slots G c * s = (div-lt_iff_lt-mul {k = s} some).0 at in
      omega (arith, rest, div-add-mod' x G.region)

-- where a slot starts, it is located, and an offset lies no way into it
pub start_located : (G : Layout) (c i : ℕ) → i < slots G c → let l = locate G (slot_start G c i) in
    (l.class ≡ c) × (l.slot ≡ i) × (l.into ≡ 0)
start_located G c i h =
    let x : ℕ = slot_start G c i in
    let (class, slot) = slot_located G c i x h (le_refl x) (omega (arith, slot_size_pos G c i h)) in
    let region : x / G.region * G.region ≡ c * G.region = ap (λ (r : ℕ). r * G.region) class in
    let s : ℕ = slot_size G (x / G.region) in
    let rest : x % G.region / s * s ≡ i * slot_size G c = rw (class, rw class at slot) in
    (class, slot, omega (arith, region, rest, div-add-mod' x G.region, div-add-mod' (x % G.region) s))
