-- A search by blocks: a block that has the first, one that has not, and how far whole blocks are passed.
use Prim.Native.Nat.{ℕ, min, ◌+◌, ◌-◌, ◌%◌, ◌<◌, ◌≤◌}
use mathlib.Core.Path.{◌≡◌, refl, sym, ap, ◌∙◌}
use mathlib.Core.Bool.{Bool, true, false, ◌||◌}
use native.Mathlib.Nat.{zero-add, mod-add-mod, mod-eq_of_lt}
use native.Mathlib.Decide.{ℕ_discrete, dec_lt}
use native.Mathlib.Omega.{arith}
use borrow.Author.Tests.{lt-ltb, le-ltb}
use lib.Dec.{ltb}
use Rattle.search.specs.First.{first}
use Rattle.search.proofs.First.{first_range, first_passes, first_before, first_le, first_ge}

-- a number more is looked at
pub first_next : (test : ℕ → Bool) (n i : ℕ) → i < n → ltb (first test 0 n) i || test i ≡ ltb (first test 0 n) (i + 1)
first_next test n i h = elim (dec_lt found i) [
  | yes l ↦ rw (lt-ltb found i l) (sym (lt-ltb found (i + 1) (omega arith)))
  | no l ↦ rw (le-ltb found i (omega arith)) (here (omega arith) (test i) refl)
]
  where
    found : ℕ
    found = first test 0 n

    here : i ≤ found → (t : Bool) → test i ≡ t → t ≡ ltb found (i + 1)
    here l true e = sym (lt-ltb found (i + 1) (omega (arith, first_le test 0 n i (omega arith) e)))
    here l false e = sym (le-ltb found (i + 1) (first_ge test 0 n (i + 1) (omega arith) none))
      where
        none : (j : ℕ) → 0 ≤ j → j < i + 1 → test j ≡ false
        none j a b = elim (ℕ_discrete j i) [ yes q ↦ rw q e | no q ↦ first_before test 0 n j a (omega arith) ]

-- a block of m from a place on that the first is not before: its own test is that of the whole
module _ (part whole : ℕ → Bool) (at m n : ℕ) (same : (i : ℕ) → i < m → part i ≡ whole (at + i))
    (fits : at + m ≤ n) (before : at ≤ first whole 0 n) where
  abbrev found : ℕ
  found = first whole 0 n

  pub first_part : first part 0 m ≡ min m (found - at)
  first_part = omega (arith, least, most, first_range part 0 m)
    where
      least : min m (found - at) ≤ first part 0 m
      least = first_ge part 0 m (min m (found - at)) (omega arith) (λ j a l.
          same j (omega arith) ∙ first_before whole 0 n (at + j) (omega arith) (omega arith))

      most : first part 0 m ≤ found - at
      most = elim (dec_lt found (at + m)) [
        | yes l ↦
            let place : at + (found - at) ≡ found = omega arith in
            first_le part 0 m (found - at) (omega arith)
            (same (found - at) (omega arith) ∙ ap whole place ∙ first_passes whole 0 n (omega arith))
        | no l ↦ omega (arith, first_range part 0 m)
      ]

  -- whether it is in the block
  pub first_inside : ltb (first part 0 m) m ≡ ltb found (at + m)
  first_inside = elim (dec_lt found (at + m)) [
    | yes l ↦ lt-ltb (first part 0 m) m (omega (arith, first_part)) ∙ sym (lt-ltb found (at + m) l)
    | no l ↦ le-ltb (first part 0 m) m (omega (arith, first_part)) ∙ sym (le-ltb found (at + m) (omega arith))
  ]

-- the end is in the next block
pub block_last : (at block end : ℕ) → at % block ≡ 0 → at ≤ end → end < at + block → at ≡ end - end % block
block_last at block end whole h less =
    let split : at + (end - at) ≡ end = omega arith in
    let rest : end % block ≡ end - at =
    ap (λ (n : ℕ). n % block) (sym split)
    ∙ sym (mod-add-mod at block (end - at))
    ∙ rw (whole, zero-add) (mod-eq_of_lt (omega arith)) in
    omega (arith, rest)
