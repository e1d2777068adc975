-- Comparing goes part by part.
use Prim.Native.Nat.{ℕ, zero, suc}
use mathlib.Core.Path.{◌≡◌, refl, sym, ◌∙◌}
use mathlib.Core.Bool.{true, false, ◌&&◌, and_assoc}
use mathlib.Core.List.{List, [], ◌∷◌}
use lib.ListN.{take, drop}
use lib.Dec.{eqb}
use lib.Pointwise.{pointwise}
use Rattle.alike.specs.Alike.{alike}
use Rattle.alike.proofs.Equal.{pointwise_alike}

-- lists are alike where their first parts are, and what comes after these
pub alike_parts : (n : ℕ) (a b : List ℕ) → alike a b ≡ alike (take n a) (take n b) && alike (drop n a) (drop n b)
unfolding alike
alike_parts zero a b = refl
alike_parts (suc n) [] [] = refl
alike_parts (suc n) [] (y ∷ b) = refl
alike_parts (suc n) (x ∷ a) [] = refl
alike_parts (suc n) (x ∷ a) (y ∷ b) =
    rw (alike_parts n a b) (sym (and_assoc (eqb x y) (alike (take n a) (take n b)) (alike (drop n a) (drop n b))))

module _ (n : ℕ) (a b : List ℕ) {x y more further : List ℕ}
    (front : (x ≡ take n a) × (more ≡ drop n a)) (other : (y ≡ take n b) × (further ≡ drop n b)) where
  -- after a first part that is the same, what comes after it decides
  pub part_same : pointwise eqb x y ≡ true → alike a b ≡ alike more further
  part_same same =
      alike_parts n a b ∙ rw (← front.0, ← front.1, ← other.0, ← other.1, ← pointwise_alike x y, same) refl

  -- a first part that is not
  pub part_other : pointwise eqb x y ≡ false → alike a b ≡ false
  part_other differs = alike_parts n a b ∙ rw (← front.0, ← other.0, ← pointwise_alike x y, differs) refl
