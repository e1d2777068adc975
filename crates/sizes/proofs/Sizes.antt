-- Laws of the usual slot sizes and of the class of a size. What a slot size is, 8 · 2 ^ c, only the first three see.
use Prim.Native.Nat.{ℕ, ◌-◌, ◌*◌, ◌^◌, ◌≤◌, ◌<◌}
use mathlib.Core.Path.{◌≡◌}
use mathlib.Core.Bool.{Bool}
use native.Mathlib.Decide.{dec_lt}
use native.Mathlib.Omega.{arith}
use lib.Dec.{leb}
use lib.Pow.{pow_mono}
use borrow.Author.Tests.{lt-ltb, le-ltb, leb-true, leb-false}
use Rattle.search.proofs.First.{first_range, first_passes, first_before}
use Rattle.sizes.specs.Sizes.{classes, usual_size, longest_slot, usual_class}

pub usual_size_of : {c : ℕ} → c < classes → usual_size c ≡ 8 * 2 ^ c
usual_size_of {c} h = rw (lt-ltb c classes h, usual_size)

pub usual_size_past : {c : ℕ} → classes ≤ c → usual_size c ≡ 0
usual_size_past {c} h = rw (le-ltb c classes h, usual_size)

-- no class's slots are longer than the last one's
pub usual_size_le : (c : ℕ) → usual_size c ≤ longest_slot
usual_size_le c = elim (dec_lt c classes) [
  | yes h ↦ rw (usual_size_of h) (omega (arith, pow_mono {i = c} {j = 11} (omega arith)))
  | no h ↦ rw (usual_size_past {c = c} (omega arith)) (omega arith)
]

abbrev pub holds : ℕ → ℕ → Bool
holds size c = leb size (usual_size c)

-- no class holds a size that is longer than any slot, and only such a size is held by none
pub usual_class_none : (size : ℕ)
    → (usual_class size ≡ classes → longest_slot < size) × (longest_slot < size → usual_class size ≡ classes)
usual_class_none size = (longer, none)
  where
    longer : usual_class size ≡ classes → longest_slot < size
    longer e =
        let last : ℕ = classes - 1 in
        let past : last < usual_class size = omega arith in
        leb-false size (usual_size last) (first_before (holds size) 0 classes last (omega arith) past)

    none : longest_slot < size → usual_class size ≡ classes
    none h = elim (dec_lt (usual_class size) classes) [
      | yes l ↦
          let held = leb-true size (usual_size (usual_class size)) (first_passes (holds size) 0 classes l) in
          absurd (omega (arith, usual_size_le (usual_class size)))
      | no l ↦ omega (arith, (first_range (holds size) 0 classes).1)
    ]
