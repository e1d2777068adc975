-- Laws of `those`: as a loop meets it that goes from one to the next, how many they may be, that the same test gives the
-- same numbers, and which they are.
use Prim.Native.Nat.{ℕ, zero, suc, ◌+◌, ◌-◌, ◌≤◌, ◌<◌}
use mathlib.Core.Path.{◌≡◌, refl, sym, ap, ◌∙◌}
use mathlib.Core.Bool.{Bool, true, false, true≢false, cond}
use mathlib.Core.Logic.{◌⊎◌, inl, inr, ∥∥₁_elim}
use mathlib.Core.List.Memᴰ
use mathlib.Core.List.{List, [], ◌∷◌, Memᴰ}
use mathlib.Core.List.{Pairwise}
use native.Mathlib.Bridge.{le_prop}
use native.Mathlib.Nat.{add-zero}
use native.Mathlib.Decide.{ℕ_discrete}
use native.Mathlib.Omega.{arith}
use lib.ListN.{length}
use Rattle.search.specs.First.{first}
use Rattle.search.specs.Those.{those}

module _ (test : ℕ → Bool) where
  -- the first, and then those after it
  next : (i k : ℕ) → first test i k < i + k
      → those test i k ≡ first test i k ∷ those test (suc (first test i k)) (i + k - suc (first test i k))
  unfolding first those
  next i zero h = absurd (omega arith)
  next i (suc k) h = go (test i) refl (next (suc i) k)
    where
      go : (t : Bool) → test i ≡ t
          → (first test (suc i) k < suc i + k
          → those test (suc i) k
          ≡ first test (suc i) k ∷ those test (suc (first test (suc i) k)) (suc i + k - suc (first test (suc i) k)))
          → those test i (suc k) ≡ first test i (suc k) ∷ those test (suc (first test i (suc k))) (i + suc k - suc (first test i (suc k)))
      go true e rest = let left : i + suc k - suc i ≡ k = omega arith in rw (e, first, those, left)
      go false e rest =
          let l : first test (suc i) k < i + suc k = rw (e, first) at h in
          let same : i + suc k ≡ suc i + k = omega arith in
          rw (e, first, those, same) (rest (omega arith))

  none : (i k : ℕ) → i + k ≤ first test i k → those test i k ≡ []
  unfolding first those
  none i zero h = refl
  none i (suc k) h = go (test i) refl (none (suc i) k)
    where
      go : (t : Bool) → test i ≡ t → (suc i + k ≤ first test (suc i) k → those test (suc i) k ≡ []) → those test i (suc k) ≡ []
      go true e rest = let l : i + suc k ≤ i = rw (e, first) at h in absurd (omega arith)
      go false e rest = let l : i + suc k ≤ first test (suc i) k = rw (e, first) at h in rw (e, those) (rest (omega arith))

  -- the same up to n, as a loop has it
  pub those_next : {i n x : ℕ} → i ≤ n → x ≡ first test i (n - i) → x < n → those test i (n - i) ≡ x ∷ those test (x + 1) (n - (x + 1))
  those_next {i} {n} {x} l e h =
      let end : i + (n - i) ≡ n = omega arith in
      let after : suc x ≡ x + 1 = omega arith in
      rw (← after) (rw (← e, end) at (next i (n - i) (rw (← e, end) h)))

  pub those_none : {i n x : ℕ} → i ≤ n → x ≡ first test i (n - i) → n ≤ x → those test i (n - i) ≡ []
  those_none {i} {n} l e h = none i (n - i) (rw (← e) (omega arith))

  -- at most all
  pub those_few : (i k : ℕ) → length (those test i k) ≤ k
  unfolding those
  those_few i zero = omega arith
  those_few i (suc k) = go (test i) refl (those_few (suc i) k)
    where
      go : (t : Bool) → test i ≡ t → length (those test (suc i) k) ≤ k → length (those test i (suc k)) ≤ suc k
      go true e rest = rw (e, those) (omega arith)
      go false e rest = rw (e, those) (omega arith)

  -- how many they are with one number more at the end
  pub those_more : (i k : ℕ) → length (those test i (suc k)) ≡ cond (test (i + k)) 1 0 + length (those test i k)
  unfolding those
  those_more i zero = go (test i) refl
    where
      go : (t : Bool) → test i ≡ t → length (those test i 1) ≡ cond (test (i + 0)) 1 0 + 0
      go true e = rw (add-zero i, e, those)
      go false e = rw (add-zero i, e, those)
  those_more i (suc k) =
      let same : i + suc k ≡ suc i + k = omega arith in
      go (test i) refl (rw (← same) at (those_more (suc i) k))
    where
      go : (t : Bool) → test i ≡ t → length (those test (suc i) (suc k)) ≡ cond (test (i + suc k)) 1 0 + length (those test (suc i) k)
          → length (those test i (suc (suc k))) ≡ cond (test (i + suc k)) 1 0 + length (those test i (suc k))
      go true e more = rw (e, those) (omega (arith, more))
      go false e more = rw (e, those) more

  pub those_same : (other : ℕ → Bool) (i k : ℕ) → ((x : ℕ) → i ≤ x → x < i + k → test x ≡ other x) → those test i k ≡ those other i k
  unfolding those
  those_same other i zero h = refl
  those_same other i (suc k) h =
      let rest : those test (suc i) k ≡ those other (suc i) k = those_same other (suc i) k (λ x l m. h x (omega arith) (omega arith)) in
      go (other i) (h i (omega arith) (omega arith)) refl rest
    where
      go : (t : Bool) → test i ≡ t → other i ≡ t → those test (suc i) k ≡ those other (suc i) k → those test i (suc k) ≡ those other i (suc k)
      go true e f rest = rw (e, f, those) (ap (λ (xs : List ℕ). i ∷ xs) rest)
      go false e f rest = rw (e, f, those) rest

  -- a number is one of them exactly if it lies among the k and passes
  pub those_passes : (i k x : ℕ) → Memᴰ x (those test i k) → (i ≤ x) × (x < i + k) × (test x ≡ true)
  unfolding those
  those_passes i zero x m = absurd (Memᴰ.not-nil m)
  those_passes i (suc k) x m = go (test i) refl (those_passes (suc i) k x)
    where
      go : (t : Bool) → test i ≡ t → (Memᴰ x (those test (suc i) k) → (suc i ≤ x) × (x < suc i + k) × (test x ≡ true))
          → (i ≤ x) × (x < i + suc k) × (test x ≡ true)
      go true e rest = here (Memᴰ.cases_cons (rw (e, those) at m))
        where
          here : (x ≡ i) ⊎ Memᴰ x (those test (suc i) k) → (i ≤ x) × (x < i + suc k) × (test x ≡ true)
          here (inl q) = (omega arith, omega arith, rw q e)
          here (inr n) = let (l, u, p) = rest n in (omega arith, omega arith, p)
      go false e rest = let (l, u, p) = rest (rw (e, those) at m) in (omega arith, omega arith, p)

  pub those_member : (i k x : ℕ) → i ≤ x → x < i + k → test x ≡ true → Memᴰ x (those test i k)
  unfolding those
  those_member i zero x l u p = absurd (omega arith)
  those_member i (suc k) x l u p = go (test i) refl (ℕ_discrete x i) (those_member (suc i) k x)
    where
      go : (t : Bool) → test i ≡ t → Dec (x ≡ i) → (suc i ≤ x → x < suc i + k → test x ≡ true → Memᴰ x (those test (suc i) k))
          → Memᴰ x (those test i (suc k))
      go true e (yes q) rest = rw (e, those) (Memᴰ.head q)
      go true e (no q) rest = rw (e, those) (Memᴰ.tail (rest (omega arith) (omega arith) p))
      go false e (yes q) rest = absurd (true≢false (sym p ∙ ap test q ∙ e))
      go false e (no q) rest = rw (e, those) (rest (omega arith) (omega arith) p)

  -- each is below all that come later
  pub those_rising : (i k : ℕ) → Pairwise ◌<◌ (those test i k)
  unfolding those
  those_rising i zero = Pairwise.nil
  those_rising i (suc k) = go (test i) refl (those_rising (suc i) k)
    where
      go : (t : Bool) → test i ≡ t → Pairwise ◌<◌ (those test (suc i) k) → Pairwise ◌<◌ (those test i (suc k))
      go true e rest = rw (e, those) (Pairwise.cons (λ x m. ∥∥₁_elim m le_prop (λ d. (those_passes (suc i) k x d).0)) rest)
      go false e rest = rw (e, those) rest
