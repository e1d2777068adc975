-- Two lists of rising numbers that have the same members are one list.
use Prim.Native.Nat.{ℕ, ◌<◌}
use mathlib.Core.Path.{◌≡◌, refl, ap₂}
use mathlib.Core.Logic.{◌↔◌, ◌⊎◌, inl, inr}
use mathlib.Core.List.Memᴰ
use mathlib.Core.List.{List, [], ◌∷◌, Memᴰ}
use mathlib.Core.List.Pairwise
use mathlib.Core.List.{Pairwise, rel_of_Pairwise-cons}
use native.Mathlib.Omega.{arith}

-- the first is below each later one
after : {x : ℕ} {xs : List ℕ} → Pairwise ◌<◌ (x ∷ xs) → {y : ℕ} → Memᴰ y xs → x < y
after p m = rel_of_Pairwise-cons p ∣ m ∣₁

-- what is in the one list is in the other
abbrev In : List ℕ → List ℕ → Type 0
In xs ys = (z : ℕ) → Memᴰ z xs → Memᴰ z ys

module _ {x y : ℕ} {xs ys : List ℕ} (p : Pairwise ◌<◌ (x ∷ xs)) (q : Pairwise ◌<◌ (y ∷ ys)) where
  heads_same : In (x ∷ xs) (y ∷ ys) → In (y ∷ ys) (x ∷ xs) → x ≡ y
  heads_same f g = go (Memᴰ.cases_cons (f x (Memᴰ.head refl))) (Memᴰ.cases_cons (g y (Memᴰ.head refl)))
    where
      go : (x ≡ y) ⊎ Memᴰ x ys → (y ≡ x) ⊎ Memᴰ y xs → x ≡ y
      go (inl e) o = e
      go (inr m) (inl e) = omega arith
      go (inr m) (inr n) = omega (arith, after q m, after p n)

  tails_in : x ≡ y → In (x ∷ xs) (y ∷ ys) → In xs ys
  tails_in e f z m = go (Memᴰ.cases_cons (f z (Memᴰ.tail m)))
    where
      go : (z ≡ y) ⊎ Memᴰ z ys → Memᴰ z ys
      go (inl h) = absurd (omega (arith, after p m))
      go (inr n) = n

pub rising_same : (xs ys : List ℕ) → Pairwise ◌<◌ xs → Pairwise ◌<◌ ys → ((z : ℕ) → Memᴰ z xs ↔ Memᴰ z ys) → xs ≡ ys
rising_same [] [] p q both = refl
rising_same [] (y ∷ ys) p q both = absurd (Memᴰ.not-nil ((both y).1 (Memᴰ.head refl)))
rising_same (x ∷ xs) [] p q both = absurd (Memᴰ.not-nil ((both x).0 (Memᴰ.head refl)))
rising_same (x ∷ xs) (y ∷ ys) p q both =
    let e : x ≡ y = heads_same p q (λ z. (both z).0) (λ z. (both z).1) in
    let f : y ≡ x = omega arith in
    ap₂ ◌∷◌ e
    (rising_same xs ys (Pairwise.of_cons p) (Pairwise.of_cons q)
    (λ z. (tails_in p q e (λ z. (both z).0) z, tails_in q p f (λ z. (both z).1) z)))
