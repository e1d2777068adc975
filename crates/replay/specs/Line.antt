-- The line that a replay prints for a request.
use Rattle.std.specs.Prelude.{ℕ, ◌+◌, ◌*◌, Bool, leb, List, [], ◌∷◌, ◌++◌}
use Rattle.answer.specs.declared.Reply.{Reply}
use Rattle.decimal.specs.Decimal.{width, decimal}
use Rattle.rules.specs.Serve.{lent}
use Rattle.rules.specs.Call.{State, serve_on}

-- a number and a byte after it
abbrev pub field : ℕ → ℕ → List ℕ
field n mark = decimal n ++ (mark ∷ [])

-- the request's number, the refusal's number and the value, with a space between, and a line end
abbrev pub line_of : ℕ → Reply → List ℕ
line_of number r = field number 32 ++ (field r.number 32 ++ field r.value 10)

-- room for any line, and whether an output of n bytes has it
abbrev pub line_room : ℕ
line_room = 3 * (width + 1)

abbrev pub has_room : ℕ → Bool
has_room n = leb line_room n

-- the line of a request
abbrev pub line_for : State → List ℕ → List ℕ → ℕ → List ℕ
line_for s request source number = line_of number (serve_on s request (lent source)).answer
