-- Requests where nobody else writes: they are served one after another, to the last, and are a run.
use Prim.Native.Nat.{ℕ}
use mathlib.Core.Path.{◌≡◌, refl}
use mathlib.Core.List.{List, [], ◌∷◌, ◌++◌}
use Rattle.rules.specs.Serve.{Lent}
use Rattle.rules.specs.Call.{State, state_after}
use Rattle.runs.specs.Run.{left}
use Rattle.runs.specs.Undisturbed.{undisturbed, run_of}

-- From none on, each request more is served on what those before it left.
pub undisturbed_none : (s : State) → undisturbed s [] ≡ s
unfolding undisturbed
undisturbed_none s = refl

pub undisturbed_more : (s : State) (asked : List (List ℕ × Lent)) (request : List ℕ) (beside : Lent)
    → undisturbed s (asked ++ (request, beside) ∷ []) ≡ state_after (undisturbed s asked) request beside
unfolding undisturbed
undisturbed_more s [] request beside = refl
undisturbed_more s ((first, with_it) ∷ rest) request beside = undisturbed_more (state_after s first with_it) rest request beside

-- As a run, each is lent the heap that those before it left; and the metadata are those that the run leaves.
pub run_more : (s : State) (asked : List (List ℕ × Lent)) (request : List ℕ) (beside : Lent)
    → run_of s (asked ++ (request, beside) ∷ [])
    ≡ run_of s asked ++ record { request = request; lent = beside; heap = (undisturbed s asked).heap } ∷ []
unfolding undisturbed run_of
run_more s [] request beside = refl
run_more s ((first, with_it) ∷ rest) request beside = rw (run_more (state_after s first with_it) rest request beside)

pub undisturbed_run : (s : State) (asked : List (List ℕ × Lent)) → left s.metadata (run_of s asked) ≡ (undisturbed s asked).metadata
unfolding undisturbed run_of left
undisturbed_run s [] = refl
undisturbed_run s ((request, beside) ∷ rest) = undisturbed_run (state_after s request beside) rest

-- what each request keeps, all keep
pub undisturbed_keeps : (P : State → Type 0) → ((s : State) (request : List ℕ) (beside : Lent) → P s → P (state_after s request beside))
    → (asked : List (List ℕ × Lent)) (s : State) → P s → P (undisturbed s asked)
unfolding undisturbed
undisturbed_keeps P step [] s p = p
undisturbed_keeps P step ((request, beside) ∷ rest) s p = undisturbed_keeps P step rest (state_after s request beside) (step s request beside p)
