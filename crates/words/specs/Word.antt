-- Stored numbers: 32 bits in four bytes, lowest first.
use Rattle.std.specs.Prelude.{ℕ, ◌+◌, ◌*◌, ◌/◌, ◌%◌, cond, List, [], ◌∷◌, leb, length, drop, get_or}
use Rattle.writing.specs.Overwrite.{overwrite}

-- the number in the first four bytes; a byte past the end counts 0
abbrev pub word_of : List ℕ → ℕ
word_of b = get_or b 0 0 + 256 * get_or b 1 0 + 65536 * get_or b 2 0 + 16777216 * get_or b 3 0

-- the four bytes that store a number
abbrev pub bytes_of : ℕ → List ℕ
bytes_of n = n % 256 ∷ n / 256 % 256 ∷ n / 65536 % 256 ∷ n / 16777216 % 256 ∷ []

-- the number stored at a place
abbrev pub word_at : List ℕ → ℕ → ℕ
word_at b at = word_of (drop at b)

-- a number stored at a place; nothing where there are not four bytes from it on
abbrev pub put_word : List ℕ → ℕ → ℕ → List ℕ
put_word b at n = cond (leb (at + 4) (length b)) (overwrite b at (bytes_of n)) b
