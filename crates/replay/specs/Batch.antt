-- Many requests, one after another: their lines, and what they leave.
use Rattle.std.specs.Prelude.{ℕ, zero, suc, ◌+◌, ◌-◌, ◌*◌, ◌/◌, ◌^◌, ◌&&◌, Bool, cond, List, [], ◌++◌, length, take, drop, leb, ltb}
use Rattle.request.specs.Parse.{request_size}
use Rattle.rules.specs.Serve.{lent}
use Rattle.rules.specs.Call.{State, state_after}
use Rattle.replay.specs.Line.{line_room, has_room, line_for}

-- what requests come to: their lines, the state after them, and the number of the line after theirs
pub record Batch : Type 0 where
  pub text : List ℕ
  pub state : State
  pub next : ℕ

-- a batch with some text before its own
abbrev pub behind : List ℕ → Batch → Batch
behind text b = record { text = text ++ b.text; state = b.state; next = b.next }

-- the first k requests of an input, one source beside them all, their lines numbered from a number on
unfoldable pub replay : List ℕ → ℕ → State → ℕ → List ℕ → Batch
replay source zero s number input = record { text = []; state = s; next = number }
replay source (suc k) s number input =
    let request : List ℕ = take request_size input in
    behind (line_for s request source number)
    (replay source k (state_after s request (lent source)) (number + 1) (drop request_size input))

-- how many requests an input has: sixteen bytes each, the last perhaps shorter
abbrev pub requests : List ℕ → ℕ
requests input = (length input + (request_size - 1)) / request_size

-- whether `room` bytes are enough for their lines, and 64 bits for the numbers of these
abbrev pub accepts : ℕ → ℕ → List ℕ → Bool
accepts room number input = leb (requests input * line_room) room && ltb (number + requests input) (2 ^ 64)

-- how many a batch serves: all, or none where there may be too little room
abbrev pub accepted : ℕ → ℕ → List ℕ → ℕ
accepted room number input = cond (accepts room number input) (requests input) 0

-- what a batch comes to
abbrev pub batch_of : List ℕ → ℕ → State → ℕ → List ℕ → Batch
batch_of source room s number input = replay source (accepted room number input) s number input

-- what one request comes to; nothing where `room` bytes have no room for a line
abbrev pub single : List ℕ → ℕ → State → ℕ → List ℕ → Batch
single source room s number request =
    cond (has_room room)
    (record { text = line_for s request source number; state = state_after s request (lent source); next = number + 1 })
    (record { text = []; state = s; next = number })
