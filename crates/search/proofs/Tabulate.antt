-- Laws of `tabulate`: its length and entries, lists one after another, and that the same entries make the same list.
use Prim.Native.Nat.{ℕ, zero, suc, ◌+◌, ◌≤◌, ◌<◌}
use native.Mathlib.Nat.{zero-add, add-zero, add-suc, suc-add, not-suc-le-zero, le_of_suc-le-suc}
use native.Mathlib.Omega.{arith}
use mathlib.Core.Path.{◌≡◌, refl, ap, ap₂}
use mathlib.Core.List.{List, ◌∷◌, ◌++◌}
use lib.ListN.{length, get_or, drop}
use Rattle.search.specs.Tabulate.{tabulate}

module _ {A : Type 0} (f : ℕ → A) where
  pub tabulate_length : (i n : ℕ) → length (tabulate f i n) ≡ n
  unfolding tabulate
  tabulate_length i zero = refl
  tabulate_length i (suc n) = ap suc (tabulate_length (suc i) n)

  -- n entries after m
  pub tabulate_add : (i m n : ℕ) → tabulate f i (m + n) ≡ tabulate f i m ++ tabulate f (i + m) n
  unfolding tabulate
  tabulate_add i zero n = rw (zero-add, add-zero)
  tabulate_add i (suc m) n = rw (suc-add, add-suc) (ap (λ (xs : List A). f i ∷ xs) (rw suc-add at (tabulate_add (suc i) m n)))

  -- an entry, from any start
  entry : (d : A) (i n j : ℕ) → j < n → get_or (tabulate f i n) j d ≡ f (i + j)
  unfolding tabulate
  entry d i zero j h = absurd (not-suc-le-zero h)
  entry d i (suc n) zero h = rw add-zero
  entry d i (suc n) (suc j) h = rw (add-suc, ← suc-add) (entry d (suc i) n j (le_of_suc-le-suc h))

  -- an entry, from 0
  pub tabulate_at : (d : A) (n j : ℕ) → j < n → get_or (tabulate f 0 n) j d ≡ f j
  tabulate_at d n j h = rw zero-add at (entry d 0 n j h)

  -- the same entries give the same list, and from the k-th on the same rest
  pub tabulate_same : (g : ℕ → A) (i n k : ℕ) → ((j : ℕ) → i + k ≤ j → j < i + n → f j ≡ g j)
      → drop k (tabulate f i n) ≡ drop k (tabulate g i n)
  unfolding tabulate
  tabulate_same g i zero k h = refl
  tabulate_same g i (suc n) zero h =
      ap₂ ◌∷◌ (h i (omega arith) (omega arith)) (tabulate_same g (suc i) n 0 (λ j l m. h j (omega arith) (omega arith)))
  tabulate_same g i (suc n) (suc k) h = tabulate_same g (suc i) n k (λ j l m. h j (omega arith) (omega arith))

  -- from wherever they are made
  pub tabulate_moved : (g : ℕ → A) (i j n : ℕ) → ((k : ℕ) → k < n → f (i + k) ≡ g (j + k)) → tabulate f i n ≡ tabulate g j n
  unfolding tabulate
  tabulate_moved g i j zero h = refl
  tabulate_moved g i j (suc n) h =
      ap₂ ◌∷◌ (rw (add-zero i, add-zero j) at (h 0 (omega arith)))
      (tabulate_moved g (suc i) (suc j) n (λ k l. rw (suc-add i k, suc-add j k) (rw (add-suc i k, add-suc j k) at (h (suc k) (omega arith)))))
