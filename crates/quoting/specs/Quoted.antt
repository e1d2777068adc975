-- A word as it is shown to a person.
use Rattle.std.specs.Prelude.{ℕ, ◌+◌, ◌&&◌, cond, List, ◌++◌, map, length, take, leb}
use Rattle.alike.specs.Text.{bytes}

-- how many bytes of a word are shown
abbrev pub shown_most : ℕ
shown_most = 24

-- a byte as it is shown: printable ASCII as it is, and a question mark for any other
unfoldable pub shown_byte : ℕ → ℕ
shown_byte b = cond (leb 33 b && leb b 126) b 63

-- a word's start behind a quote
abbrev pub opened : List ℕ → List ℕ
opened word = bytes "\"" ++ map shown_byte (take shown_most word)

-- a word between quotes; dots after them say that it is longer
unfoldable pub quoted : List ℕ → List ℕ
quoted word = opened word ++ cond (leb (length word) shown_most) (bytes "\"") (bytes "\"...")

-- room for any
abbrev pub quoted_room : ℕ
quoted_room = 1 + (shown_most + 4)
