-- Laws of `first`: as a loop meets it that counts i up to n, and of what it gives.
use Prim.Native.Nat.{ℕ, zero, suc, ◌+◌, ◌-◌, ◌≤◌, ◌<◌}
use mathlib.Core.Path.{◌≡◌, refl, sym, ◌∙◌}
use mathlib.Core.Bool.{Bool, true, false, true≢false}
use native.Mathlib.Nat.{sub-eq-zero_of_le}
use native.Mathlib.Decide.{ℕ_discrete, dec_lt}
use native.Mathlib.Numerals.{add-one}
use native.Mathlib.Omega.{arith}
use Rattle.search.specs.First.{first}

module _ (test : ℕ → Bool) where
  -- a number that passes is found
  pub first_found : {i n : ℕ} → i < n → test i ≡ true → first test i (n - i) ≡ i
  unfolding first
  first_found {i} {n} h e = rw (fuel, e, first)
    where
      fuel : n - i ≡ suc (n - suc i)
      fuel = omega arith

  -- a number that does not pass is left behind
  pub first_past : {i n : ℕ} → i < n → test i ≡ false → first test i (n - i) ≡ first test (i + 1) (n - (i + 1))
  unfolding first
  first_past {i} {n} h e = rw (add-one, fuel, e, first)
    where
      fuel : n - i ≡ suc (n - suc i)
      fuel = omega arith

  -- nor do more of them change what is found
  pub first_skip : {i j n : ℕ} → i ≤ j → j ≤ n → ((x : ℕ) → i ≤ x → x < j → test x ≡ false) → first test i (n - i) ≡ first test j (n - j)
  first_skip {i} {j} {n} l m h = go (j - i) i (omega arith) (λ x a b. h x a b)
    where
      go : (k i : ℕ) → i + k ≡ j → ((x : ℕ) → i ≤ x → x < j → test x ≡ false) → first test i (n - i) ≡ first test j (n - j)
      go zero i e h = let same : i ≡ j = omega arith in rw same
      go (suc k) i e h = first_past (omega arith) (h i (omega arith) (omega arith)) ∙ go k (i + 1) (omega arith) (λ x a b. h x (omega arith) b)

  -- past the end nothing is looked at
  pub first_none : {i n : ℕ} → n ≤ i → first test i (n - i) ≡ i
  unfolding first
  first_none h = rw (sub-eq-zero_of_le h)

  -- the answer is one of the numbers, or the one after them
  pub first_range : (i k : ℕ) → (i ≤ first test i k) × (first test i k ≤ i + k)
  unfolding first
  first_range i zero = omega arith
  first_range i (suc k) = go (test i) refl (first_range (suc i) k)
    where
      go : (t : Bool) → test i ≡ t → (suc i ≤ first test (suc i) k) × (first test (suc i) k ≤ suc i + k)
          → (i ≤ first test i (suc k)) × (first test i (suc k) ≤ i + suc k)
      go true e rest = rw (e, first) (omega arith)
      go false e rest = rw (e, first) (omega arith)

  -- what is found before the end passes
  pub first_passes : (i k : ℕ) → first test i k < i + k → test (first test i k) ≡ true
  unfolding first
  first_passes i zero h = absurd (omega arith)
  first_passes i (suc k) h = go (test i) refl (first_passes (suc i) k)
    where
      go : (t : Bool) → test i ≡ t → (first test (suc i) k < suc i + k → test (first test (suc i) k) ≡ true)
          → test (first test i (suc k)) ≡ true
      go true e rest = rw (e, first) e
      go false e rest =
          let l : first test (suc i) k < i + suc k = rw (e, first) at h in
          rw (e, first) (rest (omega arith))

  -- what lies before it does not pass
  pub first_before : (i k j : ℕ) → i ≤ j → j < first test i k → test j ≡ false
  unfolding first
  first_before i zero j l h = absurd (omega arith)
  first_before i (suc k) j l h = go (test i) refl (ℕ_discrete i j) (first_before (suc i) k j)
    where
      go : (t : Bool) → test i ≡ t → Dec (i ≡ j) → (i < j → j < first test (suc i) k → test j ≡ false) → test j ≡ false
      go true e at rest = let z : j < i = rw (e, first) at h in absurd (omega arith)
      go false e (yes q) rest = rw (← q) e
      go false e (no q) rest = rest (omega arith) (rw (e, first) at h)

  -- so it is no later than one that passes
  pub first_le : (i k j : ℕ) → i ≤ j → test j ≡ true → first test i k ≤ j
  first_le i k j l e = elim (dec_lt j (first test i k)) [
    | yes h ↦ absurd (true≢false (sym e ∙ first_before i k j l h))
    | no h ↦ omega arith
  ]

  -- and no earlier than numbers that do not
  pub first_ge : (i k n : ℕ) → n ≤ i + k → ((j : ℕ) → i ≤ j → j < n → test j ≡ false) → n ≤ first test i k
  first_ge i k n l none = elim (dec_lt (first test i k) n) [
    | yes h ↦ absurd (true≢false (sym (first_passes i k (omega arith)) ∙ none (first test i k) (first_range i k).0 h))
    | no h ↦ omega arith
  ]

  -- a search that ends sooner: what it finds, or where it finds nothing, the rest
  pub first_early : {i e n : ℕ} → i ≤ e → e ≤ n → first test i (e - i) < e → first test i (n - i) ≡ first test i (e - i)
  first_early {i} {e} {n} l m h =
      let x : ℕ = first test i (e - i) in
      first_skip (first_range i (e - i)).0 (omega arith) (λ j a b. first_before i (e - i) j a b)
      ∙ first_found (omega arith) (first_passes i (e - i) (omega arith))

  pub first_later : {i e n : ℕ} → i ≤ e → e ≤ n → e ≤ first test i (e - i) → first test i (n - i) ≡ first test e (n - e)
  first_later {i} {e} l m h = first_skip l m (λ j a b. first_before i (e - i) j a (omega arith))

  -- it passes also at the end, if what stands there does
  pub first_holds : (i k : ℕ) → test (i + k) ≡ true → test (first test i k) ≡ true
  first_holds i k e = elim (dec_lt (first test i k) (i + k)) [
    | yes h ↦ first_passes i k h
    | no h ↦ let end : first test i k ≡ i + k = omega (arith, first_range i k) in rw end e
  ]
