-- The lines of a text, what is left after them, and which numbers they have.
use mathlib.Core.Path.{◌≡◌, refl}
use mathlib.Core.List.{List, [], ◌∷◌, ◌++◌}
use Prim.Native.Nat.{ℕ}
use Rattle.line.specs.Text.{bytes}
use Rattle.line.specs.Line.{read_line}
use Rattle.messages.specs.Message.{message_of}
use Rattle.assembly.specs.Batch.{lines_from, unended_from, lines, unended, messages_of}

two_lines : lines (bytes "place 5\n\nfree") ≡ bytes "place 5" ∷ [] ∷ []
unfolding bytes lines_from
two_lines = refl

unfinished_line : unended (bytes "place 5\n\nfree") ≡ bytes "free"
unfolding bytes unended_from
unfinished_line = refl

-- good lines have numbers too
lines_numbered : (a b : List ℕ)
    → messages_of 9 (a ∷ b ∷ []) ≡ message_of 9 a (read_line a) ++ (message_of 10 b (read_line b) ++ [])
unfolding messages_of
lines_numbered a b = refl
