-- A word read digit by digit.
use Rattle.std.proofs.Common.{◌≡◌, ℕ, ◌+◌, ◌<◌, List, length, get_or, drop, add-one, drop-cons}
use Rattle.std.specs.Option.{option_and_then}
use Rattle.line.specs.Number.{more, with_digits}

-- a digit more, or none
pub digits_more : (word : List ℕ) (n i : ℕ) → i < length word
    → with_digits n (drop i word) ≡ option_and_then (λ m. with_digits m (drop (i + 1) word)) (more n (get_or word i 0))
unfolding with_digits
digits_more word n i h = rw (add-one, drop-cons word i 0 h, with_digits)
