use Rattle.std.specs.Prelude.{ℕ, zero, suc, Bool, true, false, List, [], ◌∷◌}

-- those of the k numbers from i on that pass a test
unfoldable pub those : (ℕ → Bool) → ℕ → ℕ → List ℕ
those test i zero = []
those test i (suc k) = elim (test i) [ true ↦ i ∷ those test (suc i) k | false ↦ those test (suc i) k ]
