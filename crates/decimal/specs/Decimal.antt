-- A number in decimal, as text.
use Rattle.std.specs.Prelude.{ℕ, zero, suc, ◌+◌, ◌-◌, ◌/◌, ◌%◌, true, false, cond, List, [], ◌∷◌, ◌++◌, ltb, leb}

-- the most digits that a 64-bit number has
abbrev pub width : ℕ
width = 20

-- the digits of n in ASCII, the highest first, where it has no more than k + 1
unfoldable pub decimal_in : ℕ → ℕ → List ℕ
decimal_in zero n = (48 + n) ∷ []
decimal_in (suc k) n = elim (ltb n 10) [ true ↦ (48 + n) ∷ [] | false ↦ decimal_in k (n / 10) ++ ((48 + n % 10) ∷ []) ]

abbrev pub decimal : ℕ → List ℕ
decimal n = decimal_in (width - 1) n

-- what of a number is written into `room` bytes: its digits, or nothing where these are too few for some number
abbrev pub decimal_within : ℕ → ℕ → List ℕ
decimal_within room n = cond (leb width room) (decimal n) []
