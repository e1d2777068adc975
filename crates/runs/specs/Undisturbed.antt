-- Requests where nobody else writes to the heap or its metadata.
use Rattle.std.specs.Prelude.{ℕ, List, [], ◌∷◌}
use Rattle.rules.specs.Serve.{Lent}
use Rattle.rules.specs.Call.{State, state_after}
use Rattle.runs.specs.Run.{Entry}

-- a heap and its metadata after requests, each with what is lent beside it
unfoldable pub undisturbed : State → List (List ℕ × Lent) → State
undisturbed s [] = s
undisturbed s ((request, beside) ∷ rest) = undisturbed (state_after s request beside) rest

-- those requests as a run: each is lent the heap that the one before left
unfoldable pub run_of : State → List (List ℕ × Lent) → List Entry
run_of s [] = []
run_of s ((request, beside) ∷ rest) =
    record { request = request; lent = beside; heap = s.heap } ∷ run_of (state_after s request beside) rest
