-- Whose outputs are the same, as the theorems on whole votes say it.
use Rattle.std.specs.Prelude.{ℕ, ◌*◌, Bool, List, take, drop}
use Rattle.vote.specs.Decide.{first_of, sharing}

-- the output of replica r, where outputs of one length lie one after another
abbrev pub output_of : List ℕ → ℕ → ℕ → List ℕ
output_of outputs len r = take len (drop (r * len) outputs)

-- those of k replicas who have an output
abbrev pub having : List ℕ → ℕ → ℕ → List ℕ → List Bool
having outputs k len output = sharing (first_of k) (output_of outputs len) output
