-- The slot that draws choose, in a class's bitmap.
use Rattle.std.specs.Prelude.{ℕ, zero, suc, ◌%◌, true, false, List}
use Rattle.mwc.specs.declared.Generator.{Generator}
use Rattle.mwc.specs.Draw.{next, drawn}
use Rattle.bitmap.specs.Bitmap.{is_set, next_clear}
use Rattle.probe.specs.declared.Found.{Found}

-- up to k draws, of which the first that meets a clear slot takes it; then the next clear slot above the last one
-- tested
unfoldable pub probe : List ℕ → ℕ → Generator → ℕ → ℕ → Found
probe b n g last zero = record { slot = next_clear b n last; generator = g }
probe b n g last (suc k) =
    let i : ℕ = drawn (next g) % n in
    elim (is_set b n i) [ true ↦ probe b n (next g) i k | false ↦ record { slot = i; generator = next g } ]

-- no more draws than this
abbrev pub draws : ℕ
draws = 32
