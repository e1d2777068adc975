-- What a closure that always gives zero fills.
use Rattle.std.proofs.Common.{◌≡◌, ℕ, List, [], ◌∷◌, length, replicate, refl}
use mathlib.Core.Path.{ap₂}
use Rattle.std.specs.List.{FoldsTo}

pub all_zero : {F : Type 0} (R : F → ℕ → F → Type 0) → ((f : F) (x : ℕ) (g : F) → R f x g → x ≡ 0)
    → (xs : List ℕ) (p q : F) → FoldsTo R p xs q → xs ≡ replicate (length xs) 0
all_zero R zero [] p q h = refl
all_zero R zero (x ∷ xs) p q (j, first, rest) = ap₂ ◌∷◌ (zero p x j first) (all_zero R zero xs j q rest)
