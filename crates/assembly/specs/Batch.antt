-- The lines of a text, and what they come to one after another.
use Rattle.std.specs.Prelude.{ℕ, ◌+◌, ◌*◌, ◌^◌, Bool, true, false, ◌&&◌, cond}
use Rattle.std.specs.Prelude.{List, [], ◌∷◌, ◌++◌, length, leb, ltb, eqb}
use Rattle.request.specs.Parse.{request_size}
use Rattle.line.specs.Line.{read_line, request_of}
use Rattle.messages.specs.Message.{message_of, message_room}
use Rattle.assembly.specs.declared.Turn.{Turn}

abbrev pub newline : ℕ
newline = 10

-- the lines of a text that have their end, and what comes after the last; the first line has some bytes already
unfoldable pub lines_from : List ℕ → List ℕ → List (List ℕ)
lines_from line [] = []
lines_from line (b ∷ text) =
    elim (eqb b newline) [ true ↦ line ∷ lines_from [] text | false ↦ lines_from (line ++ (b ∷ [])) text ]

unfoldable pub unended_from : List ℕ → List ℕ → List ℕ
unended_from line [] = line
unended_from line (b ∷ text) =
    elim (eqb b newline) [ true ↦ unended_from [] text | false ↦ unended_from (line ++ (b ∷ [])) text ]

abbrev pub lines : List ℕ → List (List ℕ)
lines text = lines_from [] text

abbrev pub unended : List ℕ → List ℕ
unended text = unended_from [] text

-- the requests that lines ask for
unfoldable pub requests_of : List (List ℕ) → List ℕ
requests_of [] = []
requests_of (line ∷ more) = request_of (read_line line) ++ requests_of more

-- what is said of lines, numbered from a number on
unfoldable pub messages_of : ℕ → List (List ℕ) → List ℕ
messages_of number [] = []
messages_of number (line ∷ more) = message_of number line (read_line line) ++ messages_of (number + 1) more

-- what the lines of a text come to
abbrev pub requests_in : List ℕ → List ℕ
requests_in text = requests_of (lines text)

abbrev pub messages_in : ℕ → List ℕ → List ℕ
messages_in number text = messages_of number (lines text)

-- how much of a text is left and written, and the number of the line after it
unfoldable pub turn_of : ℕ → List ℕ → Turn
turn_of number text =
    record {
      kept = length (unended text);
      next = number + length (lines text);
      requests = length (requests_in text);
      messages = length (messages_in number text);
    }

-- whether there is room for what n bytes of lines come to, and for the lines' numbers in 64 bits
abbrev pub fits : ℕ → ℕ → ℕ → ℕ → Bool
fits n number out errors = leb (n * request_size) out && (leb (n * message_room) errors && ltb (number + n) (2 ^ 64))

-- what is read of a text: all, or nothing where there may be no room
unfoldable pub admitted : List ℕ → ℕ → ℕ → ℕ → List ℕ
admitted text number out errors = cond (fits (length text) number out errors) text []
