-- Laws of lists by what stands at their places, and of how many a filter leaves.
use Prim.Native.Nat.{ℕ, zero, suc, ◌+◌, ◌≤◌, ◌<◌}
use mathlib.Core.Path.{◌≡◌, refl}
use mathlib.Core.Bool.{Bool, true, false, cond}
use mathlib.Core.Option.{none, some}
use mathlib.Core.List.{List, [], ◌∷◌, ◌++◌, filter}
use mathlib.Core.Logic.{◌↔◌, ◌⊎◌, inl, inr, ite}
use native.Mathlib.Nat.{zero-add, suc-add}
use native.Mathlib.Omega.{arith}
use lib.ListN.{length}
use Rattle.runs.specs.Wordings.{At}

-- ---- places

module _ {A : Type 0} where
  -- nothing stands in the empty list, and at the front what is there
  pub at_nowhere : {x : A} → none ≡ some x → ⊥
  at_nowhere e = let z : ◌≡◌ {A = ℕ} 0 1 = cc in omega arith

  pub at_first : {x y : A} → some x ≡ some y → x ≡ y
  at_first e = cc

  pub at_below : (xs : List A) (i : ℕ) {x : A} → At xs i x → i < length xs
  at_below [] i e = absurd (at_nowhere e)
  at_below (y ∷ xs) zero e = omega arith
  at_below (y ∷ xs) (suc i) e = omega (arith, at_below xs i e)

  -- in a list and one after it
  pub at_left : (xs ys : List A) (i : ℕ) {x : A} → At xs i x → At (xs ++ ys) i x
  at_left [] ys i e = absurd (at_nowhere e)
  at_left (y ∷ xs) ys zero e = e
  at_left (y ∷ xs) ys (suc i) e = at_left xs ys i e

  pub at_right : (xs ys : List A) (i : ℕ) {x : A} → At ys i x → At (xs ++ ys) (length xs + i) x
  at_right [] ys i e = rw zero-add e
  at_right (y ∷ xs) ys i e = rw suc-add (at_right xs ys i e)

  pub at_either : (xs ys : List A) (i : ℕ) {x : A} → At (xs ++ ys) i x → At xs i x ⊎ ((k : ℕ) × (i ≡ length xs + k) × At ys k x)
  at_either [] ys i e = inr (i, omega arith, e)
  at_either (y ∷ xs) ys zero e = inl e
  at_either (y ∷ xs) ys (suc i) {x} e = go (at_either xs ys i e)
    where
      go : At xs i x ⊎ ((k : ℕ) × (i ≡ length xs + k) × At ys k x) → At xs i x ⊎ ((k : ℕ) × (suc i ≡ suc (length xs) + k) × At ys k x)
      go (inl f) = inl f
      go (inr (k, same, f)) = inr (k, omega arith, f)

-- what holds of a list by its front and its rest holds at each place
pub all_places : {A : Type 0} (P : A → Type 0) (All : List A → Type 0) → All [] → ((x : A) (xs : List A) → All (x ∷ xs) ↔ (P x × All xs))
    → (xs : List A) → All xs ↔ ((i : ℕ) (x : A) → At xs i x → P x)
all_places P All empty more [] = (λ h i x q. absurd (at_nowhere q), λ h. empty)
all_places {A} P All empty more (y ∷ xs) =
    let (there, back) = all_places P All empty more xs in
    (λ h. to ((more y xs).0 h).0 (there ((more y xs).0 h).1), λ h. (more y xs).1 (h 0 y refl, back (λ i. h (suc i))))
  where
    to : P y → ((i : ℕ) (x : A) → At xs i x → P x) → (i : ℕ) (x : A) → At (y ∷ xs) i x → P x
    to h rest zero x q = rw (← at_first q) h
    to h rest (suc i) x q = rest i x q

-- ---- filters

module _ {A : Type 0} {p : A → Type 0} (passes : (a : A) → Dec (p a)) where
  filter_yes : (x : A) (xs : List A) → p x → length (filter passes (x ∷ xs)) ≡ suc (length (filter passes xs))
  filter_yes x xs h = go (passes x)
    where
      go : (d : Dec (p x)) → length (ite {C = List A} d (x ∷ filter passes xs) (filter passes xs)) ≡ suc (length (filter passes xs))
      go (yes k) = refl
      go (no n) = absurd (n h)

  filter_no : (x : A) (xs : List A) → (p x → ⊥) → length (filter passes (x ∷ xs)) ≡ length (filter passes xs)
  filter_no x xs n = go (passes x)
    where
      go : (d : Dec (p x)) → length (ite {C = List A} d (x ∷ filter passes xs) (filter passes xs)) ≡ length (filter passes xs)
      go (yes k) = absurd (n k)
      go (no m) = refl

  -- a test that tells who passes counts them
  pub filter_counts : (t : Bool) (x : A) (xs : List A) → (t ≡ true → p x) → (t ≡ false → p x → ⊥)
      → cond t 1 0 + length (filter passes xs) ≡ length (filter passes (x ∷ xs))
  filter_counts true x xs f g = omega (arith, filter_yes x xs (f refl))
  filter_counts false x xs f g = omega (arith, filter_no x xs (g refl))

  -- none passes, one does, two do
  pub filter_none : (xs : List A) → ((i : ℕ) (x : A) → At xs i x → p x → ⊥) → length (filter passes xs) ≡ 0
  filter_none [] h = refl
  filter_none (x ∷ xs) h = omega (arith, filter_no x xs (h 0 x refl), filter_none xs (λ i. h (suc i)))

  pub filter_some : (xs : List A) (i : ℕ) {x : A} → At xs i x → p x → 1 ≤ length (filter passes xs)
  filter_some [] i e h = absurd (at_nowhere e)
  filter_some (y ∷ xs) zero e h = omega (arith, filter_yes y xs (rw (at_first e) h))
  filter_some (y ∷ xs) (suc i) e h = elim (passes y) [
    | yes k ↦ omega (arith, filter_yes y xs k)
    | no n ↦ omega (arith, filter_no y xs n, filter_some xs i e h)
  ]

  pub filter_two : (xs : List A) (i j : ℕ) {x y : A} → i < j → At xs i x → At xs j y → p x → p y → 2 ≤ length (filter passes xs)
  filter_two [] i j l e f h k = absurd (at_nowhere e)
  filter_two (z ∷ xs) i zero l e f h k = absurd (omega arith)
  filter_two (z ∷ xs) zero (suc j) l e f h k = omega (arith, filter_yes z xs (rw (at_first e) h), filter_some xs j f k)
  filter_two (z ∷ xs) (suc i) (suc j) l e f h k = elim (passes z) [
    | yes q ↦ omega (arith, filter_yes z xs q, filter_some xs j f k)
    | no q ↦ omega (arith, filter_no z xs q, filter_two xs i j (omega arith) e f h k)
  ]

  -- where no two do, at most one does
  pub filter_one : (xs : List A) → ((i j : ℕ) (x y : A) → i < j → At xs i x → At xs j y → p x → p y → ⊥) → length (filter passes xs) ≤ 1
  filter_one [] h = omega arith
  filter_one (x ∷ xs) h = elim (passes x) [
    | yes k ↦ omega (arith, filter_yes x xs k, filter_none xs (λ j y f q. h 0 (suc j) x y (omega arith) refl f k q))
    | no n ↦ omega (arith, filter_no x xs n, filter_one xs (λ i j y z l. h (suc i) (suc j) y z (omega arith)))
  ]
