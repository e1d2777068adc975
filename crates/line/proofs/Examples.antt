-- What `read_line` makes of good lines, of lines with tabs and carriage returns, and of bad ones.
use mathlib.Core.Path.{◌≡◌, refl}
use mathlib.Core.List.{[], ◌∷◌, map}
use Prim.Native.Nat.{ℕ}
use Rattle.std.specs.Prelude.{Some, None, Ok, Err}
use Rattle.search.specs.First.{first}
use Rattle.alike.specs.Alike.{alike}
use Rattle.scan.specs.Bytes.{index_of, index_after}
use Rattle.line.specs.Text.{bytes, is_blank, next_word, trimmed_end}
use Rattle.line.specs.Number.{more, with_digits}
use Rattle.line.specs.Line.{Read, operation_of, request, counted, operands, statement, read_text, read_line}
use Rattle.line.specs.declared.Word.{Word}
use Rattle.line.specs.declared.BadLine.TheVariants.{Operation, Number, TrailingText}

abbrev asked : ℕ → ℕ → ℕ → Read
asked operation argument count = Ok (Some (record { operation = operation; argument = argument; count = count }))

abbrev nothing : Read
nothing = Ok None

abbrev word : ℕ → ℕ → Word
word start end = record { start = start; end = end }

good_lines : map (λ t. read_line (bytes t))
    ("place 5"
    ∷ "  counted 3  40 # and more"
    ∷ "free 4294967295"
    ∷ "   # place 5"
    ∷ "read 640 4"
    ∷ "read 0 4294967295"
    ∷ [])
    ≡ asked 0 5 0
    ∷ asked 5 3 40
    ∷ asked 1 4294967295 0
    ∷ nothing
    ∷ asked 6 640 4
    ∷ asked 6 0 4294967295
    ∷ []
unfolding bytes first alike index_of index_after is_blank next_word trimmed_end more with_digits operation_of
    request counted operands statement read_text
good_lines = refl

tabs_and_returns : map (λ t. read_line (bytes t)) ("\tplace\t5 \t\r" ∷ "\r" ∷ "free 640\r" ∷ "free 640 # no part\r" ∷ [])
    ≡ asked 0 5 0 ∷ nothing ∷ asked 1 640 0 ∷ asked 1 640 0 ∷ []
unfolding bytes first alike index_of index_after is_blank next_word trimmed_end more with_digits operation_of
    request counted operands statement read_text
tabs_and_returns = refl

-- a carriage return elsewhere is a byte like others; of two numbers the first bad one is found
bad_lines : map (λ t. read_line (bytes t))
    (" placed 5"
    ∷ "free 4294967296"
    ∷ "text # 5"
    ∷ "copy 1 2 3"
    ∷ "counted 6a 6b"
    ∷ "counted 3 x"
    ∷ "free 5\r\r"
    ∷ "read 640"
    ∷ "read 640 x"
    ∷ "read 640 4 5"
    ∷ [])
    ≡ Err (Operation (word 1 7))
    ∷ Err (Number (word 5 15))
    ∷ Err (Number (word 5 5))
    ∷ Err (TrailingText (word 7 8))
    ∷ Err (Number (word 8 10))
    ∷ Err (Number (word 10 11))
    ∷ Err (Number (word 5 7))
    ∷ Err (Number (word 8 8))
    ∷ Err (Number (word 9 10))
    ∷ Err (TrailingText (word 11 12))
    ∷ []
unfolding bytes first alike index_of index_after is_blank next_word trimmed_end more with_digits operation_of
    request counted operands statement read_text
bad_lines = refl
