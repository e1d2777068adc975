-- What is said of bad lines, and how long it may get.
use mathlib.Core.Path.{◌≡◌, refl}
use mathlib.Core.List.{List, [], ◌∷◌, map}
use Prim.Native.Nat.{ℕ}
use lib.ListN.{length, replicate}
use Rattle.search.specs.First.{first}
use Rattle.alike.specs.Alike.{alike}
use Rattle.scan.specs.Bytes.{index_of, index_after}
use Rattle.line.specs.Text.{bytes, is_blank, next_word, trimmed_end}
use Rattle.line.specs.Number.{more, with_digits}
use Rattle.line.specs.Line.{operation_of, request, counted, operands, statement, read_text, read_line}
use Rattle.messages.specs.Message.{found, said, expected, found_text, message_of, expected_room, found_room}
use Rattle.quoting.specs.Quoted.{shown_byte, quoted}
use Rattle.decimal.specs.Decimal.{decimal_in}

abbrev said_of : ℕ → List ℕ → List ℕ
said_of n line = message_of n line (read_line line)

-- a message for each kind of bad line
bad_lines_named : map (λ line. said_of 10 (bytes line))
    ("place 5" ∷ "placed 5" ∷ "text # 5" ∷ "free\t4294967296\r" ∷ "copy 1 two" ∷ [])
    ≡ map bytes
    (""
    ∷ "line 10: expected place, free, measure, copy, text, counted or read, found \"placed\"\n"
    ∷ "line 10: expected a number from 0 to 4294967295, found the end of the line\n"
    ∷ "line 10: expected a number from 0 to 4294967295, found \"4294967296\"\n"
    ∷ "line 10: expected nothing after the numbers, found \"two\"\n"
    ∷ [])
unfolding bytes first alike index_of index_after is_blank next_word trimmed_end more with_digits operation_of
    request counted operands statement read_text expected found_text found quoted shown_byte said decimal_in
bad_lines_named = refl

long_line_named : said_of 1 (replicate 256 32) ≡ bytes "line 1: expected at most 255 bytes, found more\n"
unfolding bytes trimmed_end read_text expected found_text said decimal_in
long_line_named = refl

-- 24 bytes of a word are shown; a longer one has dots, and a byte that is not printable is a question mark
words_shown : map (λ w. found (bytes w))
    ("abcdefghijklmnopqrstuvwx" ∷ "abcdefghijklmnopqrstuvwxy" ∷ "a\rb\u{1b}c" ∷ "!aÿ~" ∷ "a\u{7f}b" ∷ [])
    ≡ map bytes
    ("\"abcdefghijklmnopqrstuvwx\"\n"
    ∷ "\"abcdefghijklmnopqrstuvwx\"...\n"
    ∷ "\"a?b?c\"\n"
    ∷ "\"!a?~\"\n"
    ∷ "\"a?b\"\n"
    ∷ [])
unfolding bytes found quoted shown_byte
words_shown = refl

-- the longest texts have their room and no more
longest_expected : length (bytes ": expected place, free, measure, copy, text, counted or read, found ") ≡ expected_room
unfolding bytes
longest_expected = refl

longest_found : length (found (replicate 25 65)) ≡ found_room
unfolding bytes found quoted shown_byte
longest_found = refl
