-- Lists are alike where they are equal.
use Prim.Native.Nat.{ℕ}
use mathlib.Core.Path.{◌≡◌, refl, sym, ◌∙◌}
use mathlib.Core.Bool.{Bool, true, false}
use mathlib.Core.List.{List, [], ◌∷◌}
use lib.Dec.{eqb}
use lib.Pointwise.{pointwise, bytes_decides}
use Rattle.alike.specs.Alike.{alike}

-- element by element, as slices are compared
pub pointwise_alike : (xs ys : List ℕ) → pointwise eqb xs ys ≡ alike xs ys
unfolding alike
pointwise_alike [] [] = refl
pointwise_alike [] (y ∷ ys) = refl
pointwise_alike (x ∷ xs) [] = refl
pointwise_alike (x ∷ xs) (y ∷ ys) = rw (pointwise_alike xs ys)

-- a list is alike to itself
pub alike_self : (xs : List ℕ) → alike xs xs ≡ true
alike_self xs = sym (pointwise_alike xs xs) ∙ (bytes_decides xs xs).1 refl

-- lists that are alike are equal
pub alike_equal : (xs ys : List ℕ) → alike xs ys ≡ true → xs ≡ ys
alike_equal xs ys h = (bytes_decides xs ys).0 (pointwise_alike xs ys ∙ h)

-- two truths that follow from each other are one
pub same_truth : (s t : Bool) → (s ≡ true → t ≡ true) → (t ≡ true → s ≡ true) → s ≡ t
same_truth true t f g = sym (f refl)
same_truth false true f g = g refl
same_truth false false f g = refl
