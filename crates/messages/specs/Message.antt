-- What is said of a bad line.
use Rattle.std.specs.Prelude.{ℕ, ◌+◌, cond, Ok, Err, List, [], ◌++◌, length, leb, eqb}
use Rattle.decimal.specs.Decimal.{width, decimal}
use Rattle.quoting.specs.Quoted.{quoted, quoted_room}
use Rattle.line.specs.Text.{bytes, word_bytes}
use Rattle.line.specs.Line.{Read}
use Rattle.line.specs.declared.BadLine.{BadLine}
use Rattle.line.specs.declared.BadLine.TheVariants.{Operation, Number, TrailingText, TooLong}

-- what stands where something else was expected
unfoldable pub found : List ℕ → List ℕ
found word = cond (eqb (length word) 0) (bytes "the end of the line\n") (quoted word ++ bytes "\n")

-- a text that is said of the line with a number
unfoldable pub said : ℕ → List ℕ → List ℕ
said number text = bytes "line " ++ (decimal number ++ text)

-- what a bad line should have been, up to `found`
unfoldable pub expected : BadLine → List ℕ
expected (Operation w) = bytes ": expected place, free, measure, copy, text, counted or read, found "
expected (Number w) = bytes ": expected a number from 0 to 4294967295, found "
expected (TrailingText w) = bytes ": expected nothing after the numbers, found "
expected TooLong = bytes ": expected at most 255 bytes, found more\n"

-- the word of a bad line that stands where another was expected, if any
unfoldable pub found_text : List ℕ → BadLine → List ℕ
found_text line (Operation w) = found (word_bytes line w)
found_text line (Number w) = found (word_bytes line w)
found_text line (TrailingText w) = found (word_bytes line w)
found_text line TooLong = []

-- what is said of the bad line with a number
abbrev pub bad_message : ℕ → List ℕ → BadLine → List ℕ
bad_message number line bad = said number (expected bad) ++ found_text line bad

-- what is said of the line with a number; nothing where it is no bad line
abbrev pub message_of : ℕ → List ℕ → Read → List ℕ
message_of number line (Ok asked) = []
message_of number line (Err bad) = bad_message number line bad

-- the lengths of the longest text up to `found`, of what is found, and of a message: room for any
abbrev pub expected_room : ℕ
expected_room = 68

abbrev pub found_room : ℕ
found_room = quoted_room + 1

abbrev pub message_room : ℕ
message_room = 5 + (width + (expected_room + found_room))

-- what is said into `room` bytes: nothing where these are too few for some message
abbrev pub message_within : ℕ → ℕ → List ℕ → Read → List ℕ
message_within room number line read = cond (leb message_room room) (message_of number line read) []
