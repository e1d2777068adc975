-- An input that is read in pieces.
use Rattle.std.specs.Prelude.{ℕ, ◌+◌, List, [], ◌∷◌, ◌++◌, take}
use Rattle.line.specs.Line.{longest_line}
use Rattle.assembly.specs.Batch.{lines, unended}

-- the pieces as one
unfoldable pub whole : List (List ℕ) → List ℕ
whole [] = []
whole (piece ∷ more) = piece ++ whole more

-- one byte more than a line may have, and a carriage return
abbrev pub longest_start : ℕ
longest_start = longest_line + 2

-- the start of an unfinished line, as far as it tells that the line is too long
abbrev pub start_of : List ℕ → List ℕ
start_of text = take longest_start (unended text)

-- the lines that are read where this start is kept and put before the next piece
unfoldable pub lines_in : List ℕ → List (List ℕ) → List (List ℕ)
lines_in kept [] = []
lines_in kept (piece ∷ more) = lines (kept ++ piece) ++ lines_in (start_of (kept ++ piece)) more
