-- Laws of the layout over the class and the slot size as variables. That slot sizes are the usual ones, only the laws
-- that unfold `slot_size` see.
use Prim.Native.Nat.{ℕ, suc, min, zero-le, ◌+◌, ◌-◌, ◌*◌, ◌%◌, ◌^◌, ◌≤◌, ◌<◌}
use mathlib.Core.Path.{◌≡◌, refl, sym, ap, ◌∙◌}
use mathlib.Core.Bool.{Bool, true, false, cond}
use native.Mathlib.Nat.{div-zero, le_refl, add-zero}
use native.Mathlib.Decide.{dec_le, dec_lt, le_ind}
use native.Mathlib.Numerals.{add-one}
use native.Mathlib.Omega.{arith}
use lib.Dec.{leb, ltb, eqb}
use lib.Pow.{pow_mono}
use borrow.Author.Tests.{lt-ltb, le-ltb, eq-eqb, ne_eqb, eqb-true, ltb-true}
use Rattle.search.specs.First.{first}
use Rattle.search.proofs.First.{first_found, first_past, first_none, first_range, first_passes}
use Rattle.sizes.proofs.Sizes.{usual_size_of, usual_size_past, usual_size_le, usual_class_none}
use Rattle.geometry.specs.declared.Layout.{Layout}
use Rattle.geometry.specs.Layout.{classes, longest_region, region_of, slot_size, longest_slot, class_of, header, bitmap_at, bitmap_length}

-- ---- region lengths

abbrev pub is_heap : ℕ → ℕ → Bool
is_heap n e = eqb n (classes * 2 ^ e)

module _ (n : ℕ) {e : ℕ} (rest : first (is_heap n) 10 (21 - 10) ≡ first (is_heap n) e (21 - e)) where
  pub region_found : e < 21 → n ≡ classes * 2 ^ e → 2 ^ e ≡ region_of n
  region_found h q = sym (rw (rest ∙ first_found (is_heap n) h (eq-eqb n (classes * 2 ^ e) q), lt-ltb e 21 h))

  pub region_past : e < 21 → (n ≡ classes * 2 ^ e → ⊥)
      → first (is_heap n) 10 (21 - 10) ≡ first (is_heap n) (e + 1) (21 - (e + 1))
  region_past h q = rest ∙ first_past (is_heap n) h (ne_eqb n (classes * 2 ^ e) q)

  pub region_none : 21 ≤ e → 0 ≡ region_of n
  region_none h = sym (rw (rest ∙ first_none (is_heap n) h, le-ltb e 21 h))

-- what a layout says of its heap
pub record Laid (n region : ℕ) : Type 0 where
  pub small : region ≤ longest_region
  pub whole : (region ≡ 0 → ⊥) → n ≡ classes * region

pub laid : (n : ℕ) → Laid n (region_of n)
laid n = go (ltb e 21) refl
  where
    e : ℕ
    e = first (is_heap n) 10 11

    go : (t : Bool) → ltb e 21 ≡ t → Laid n (cond t (2 ^ e) 0)
    go true q =
        let h : e < 21 = ltb-true e 21 q in
        record {
          small = pow_mono {i = e} {j = 20} (omega arith);
          whole = λ some. eqb-true n (classes * 2 ^ e) (first_passes (is_heap n) 10 11 h);
        }
    go false q = record { small = omega arith; whole = λ some. absurd (some refl) }

-- ---- slots

pub slot_size_of : (G : Layout) {c : ℕ} → c < classes → slot_size G c ≡ 8 * 2 ^ c
unfolding slot_size
slot_size_of G h = usual_size_of h

pub slot_size_past : (G : Layout) {c : ℕ} → classes ≤ c → slot_size G c ≡ 0
unfolding slot_size
slot_size_past G h = usual_size_past h

-- a slot has bytes, and is whole words of four bytes long
pub slot_size_some : (G : Layout) {c : ℕ} → c < classes → 0 < slot_size G c
slot_size_some G {c} h = rw (slot_size_of G h) (omega (arith, pow_mono {i = 0} {j = c} (omega arith)))

pub slot_size_whole : (G : Layout) (c : ℕ) → slot_size G c % 4 ≡ 0
slot_size_whole G c = elim (dec_lt c classes) [
  | yes h ↦ omega (arith, slot_size_of G h)
  | no h ↦ omega (arith, slot_size_past G {c = c} (omega arith))
]

-- no class's slots are longer than the last one's
pub slot_size_le : (G : Layout) (c : ℕ) → slot_size G c ≤ longest_slot
unfolding slot_size
slot_size_le G = usual_size_le

-- ---- the class of a size

-- no class is past the one after the last
pub class_le : (G : Layout) (size : ℕ) → class_of G size ≤ classes
class_le G size = (first_range (λ c. leb size (slot_size G c)) 0 classes).1

-- no class holds a size that is longer than any slot, and only such a size is held by none
pub class_none : (G : Layout) (size : ℕ)
    → (class_of G size ≡ classes → longest_slot < size) × (longest_slot < size → class_of G size ≡ classes)
unfolding slot_size
class_none G = usual_class_none

-- ---- bitmaps

-- a bitmap starts where the one before it ends
pub bitmap_next : (G : Layout) (c : ℕ) {at n : ℕ} → at ≡ bitmap_at G c → n ≡ bitmap_length G c
    → at + n ≡ bitmap_at G (c + 1)
unfolding bitmap_at
bitmap_next G c p q = rw (add-one, p, q)

-- past the last class there are no slots, and no bitmap
past : (G : Layout) (c : ℕ) → classes ≤ c → bitmap_at G classes ≡ bitmap_at G c
unfolding bitmap_at
past G = le_ind (λ (c : ℕ). bitmap_at G classes ≡ bitmap_at G c) refl (λ c h e.
    rw (slot_size_past G {c = c} h, div-zero G.region, add-zero) e)

clamped : (G : Layout) (c : ℕ) → bitmap_at G c ≡ bitmap_at G (min c classes)
clamped G c = elim (dec_le classes c) [
  | yes h ↦ sym (past G c h) ∙ ap (bitmap_at G) (omega arith)
  | no h ↦ ap (bitmap_at G) (omega arith)
]

-- so a start that is right at one class is right at any that is the same up to the last
pub bitmap_same : (G : Layout) (c d : ℕ) {at : ℕ} → at ≡ bitmap_at G c → min c classes ≡ min d classes
    → at ≡ bitmap_at G d
bitmap_same G c d p e = p ∙ clamped G c ∙ ap (bitmap_at G) e ∙ sym (clamped G d)

-- starts rise with the class, from the fields' end to the metadata's
pub bitmap_rising : (G : Layout) (c d : ℕ) → c ≤ d → bitmap_at G c ≤ bitmap_at G d
unfolding bitmap_at
bitmap_rising G c = le_ind (λ (d : ℕ). bitmap_at G c ≤ bitmap_at G d) (le_refl _) (λ d h p. omega arith)

pub bitmap_after : (G : Layout) (c : ℕ) → header ≤ bitmap_at G c
unfolding bitmap_at
bitmap_after G c = bitmap_rising G 0 c zero-le

pub bitmap_inside : (G : Layout) (c : ℕ) → bitmap_at G c ≤ bitmap_at G classes
bitmap_inside G c = rw (clamped G c) (bitmap_rising G (min c classes) classes (omega arith))

-- a bitmap ends before those of later classes, and before the end of the metadata
pub bitmap_before : (G : Layout) (c d : ℕ) → c < d → bitmap_at G c + bitmap_length G c ≤ bitmap_at G d
unfolding bitmap_at
bitmap_before G c d h = bitmap_rising G (suc c) d h
