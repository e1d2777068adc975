use Rattle.std.specs.Prelude.{ℕ, zero, suc, Bool, true, false}

-- the first of the k numbers from i on that passes a test; the number after them where none does
unfoldable pub first : (ℕ → Bool) → ℕ → ℕ → ℕ
first test i zero = i
first test i (suc k) = elim (test i) [ true ↦ i | false ↦ first test (suc i) k ]
