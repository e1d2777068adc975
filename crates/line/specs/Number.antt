-- Numbers of 32 bits in decimal.
use Rattle.std.specs.Prelude.{ℕ, ◌+◌, ◌-◌, ◌*◌, ◌^◌, ◌&&◌, cond, leb, ltb, eqb}
use Rattle.std.specs.Prelude.{Option, Some, None, List, [], ◌∷◌, length}
use Rattle.std.specs.Option.{option_and_then}

-- the first number that is too large
abbrev pub limit : ℕ
limit = 2 ^ 32

-- a number with one more digit; none where byte b is no digit, or the number is not below the limit
unfoldable pub more : ℕ → ℕ → Option ℕ
more n b =
    let next : ℕ = 10 * n + (b - 48) in
    cond ((leb 48 b && leb b 57) && ltb next limit) (Some next) None

-- a number with all digits of a text
unfoldable pub with_digits : ℕ → List ℕ → Option ℕ
with_digits n [] = Some n
with_digits n (b ∷ rest) = option_and_then (λ m. with_digits m rest) (more n b)

-- the number that a word spells; none where it spells none below the limit
abbrev pub number : List ℕ → Option ℕ
number word = cond (eqb (length word) 0) None (with_digits 0 word)
