-- The count of the set slots.
use mathlib.Core.Path.{◌≡◌, refl}
use mathlib.Core.List.{List}
use Prim.Native.Nat.{ℕ, zero, suc, ◌+◌, ◌<◌}
use native.Mathlib.Nat.{le_refl}
use native.Mathlib.Decide.{ℕ_discrete}
use native.Mathlib.Omega.{arith}
use Rattle.bitmap.specs.Bitmap.{bit, count_set}

module _ (b : List ℕ) where
  -- where all are set they are as many as there are
  pub count_full : (n : ℕ) → ((i : ℕ) → i < n → bit b i ≡ 1) → count_set b n ≡ n
  unfolding count_set
  count_full zero h = refl
  count_full (suc n) h = omega (arith, h n (le_refl (suc n)), count_full n (λ i l. h i (omega arith)))

  -- where one is set they are some
  pub count_some : (n i : ℕ) → i < n → bit b i ≡ 1 → 0 < count_set b n
  unfolding count_set
  count_some zero i h e = absurd (omega arith)
  count_some (suc n) i h e = elim (ℕ_discrete i n) [
    | yes q ↦ let last : bit b n ≡ 1 = rw q at e in omega arith
    | no q ↦ omega (arith, count_some n i (omega arith) e)
  ]

  -- where none is set they are none
  pub count_none : (n : ℕ) → ((i : ℕ) → bit b i ≡ 0) → 0 ≡ count_set b n
  unfolding count_set
  count_none zero h = refl
  count_none (suc n) h = omega (arith, h n, count_none n h)

module _ (b b' : List ℕ) where
  -- bitmaps with the same bits have the same count
  pub count_same : (n : ℕ) → ((j : ℕ) → j < n → bit b' j ≡ bit b j) → count_set b' n ≡ count_set b n
  unfolding count_set
  count_same zero h = refl
  count_same (suc n) h = rw (h n (omega arith), count_same n (λ j l. h j (omega arith)))

  -- and with one bit changed, the count changes as that bit does
  pub count_but_one : (i n : ℕ) → i < n → ((j : ℕ) → j < n → (j ≡ i → ⊥) → bit b' j ≡ bit b j) → count_set b' n + bit b i ≡ count_set b n + bit b' i
  unfolding count_set
  count_but_one i zero l h = absurd (omega arith)
  count_but_one i (suc n) l h = elim (ℕ_discrete i n) [
    | yes e ↦ rw (e, count_same n (λ j k. h j (omega arith) (omega arith))) (omega arith)
    | no e ↦ omega (arith, count_but_one i n (omega arith) (λ j k. h j (omega arith)), h n (omega arith) (omega arith))
  ]
