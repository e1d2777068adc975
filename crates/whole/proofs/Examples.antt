-- What the words of the theorems mean, on examples and near misses.
use Prim.Native.Nat.{ℕ, ◌*◌}
use mathlib.Core.Path.{◌≡◌, refl}
use mathlib.Core.Bool.{true, false}
use mathlib.Core.List.{List, [], ◌∷◌, ◌++◌}
use lib.ListN.{replicate}
use Rattle.search.specs.First.{first}
use Rattle.search.specs.Tabulate.{tabulate}
use Rattle.alike.specs.Alike.{alike}
use Rattle.elect.specs.Leader.{digits, votes, mask_of, leader}
use Rattle.vote.specs.Decide.{count, agreed_by}
use Rattle.whole.specs.Whole.{through, whole}
use Rattle.whole.specs.Outputs.{output_of, having}

-- ---- outputs

-- the first of three, the last, and one that is not there
outputs_of_two : output_of (1 ∷ 2 ∷ 3 ∷ 4 ∷ 5 ∷ 6 ∷ []) 2 0 ++ output_of (1 ∷ 2 ∷ 3 ∷ 4 ∷ 5 ∷ 6 ∷ []) 2 2 ≡ 1 ∷ 2 ∷ 5 ∷ 6 ∷ []
outputs_of_two = refl

output_not_there : output_of (1 ∷ 2 ∷ 3 ∷ 4 ∷ 5 ∷ 6 ∷ []) 2 3 ≡ []
output_not_there = refl

-- who has an output: not who has its first byte alone, nor its last, nor who is not one of the k
has_it : mask_of (having (1 ∷ 2 ∷ 1 ∷ 3 ∷ 3 ∷ 2 ∷ 1 ∷ 2 ∷ []) 4 2 (1 ∷ 2 ∷ [])) ≡ 9
unfolding alike tabulate digits
has_it = refl

of_three : mask_of (having (1 ∷ 2 ∷ 1 ∷ 3 ∷ 3 ∷ 2 ∷ 1 ∷ 2 ∷ []) 3 2 (1 ∷ 2 ∷ [])) ≡ 1
unfolding alike tabulate digits
of_three = refl

-- the last of sixteen; and by a byte beyond the first block
last_of_all : mask_of (having (replicate 15 0 ++ (1 ∷ [])) 16 1 (1 ∷ [])) ≡ 32768
unfolding alike tabulate digits
last_of_all = refl

far_byte : mask_of (having (replicate 4_096 0 ++ (1 ∷ replicate 4_096 0) ++ (2 ∷ replicate 4_096 0) ++ (1 ∷ [])) 3 4_097 (replicate 4_096 0 ++ (1 ∷ []))) ≡ 5
unfolding alike tabulate digits
far_byte = refl

-- ---- more than half

-- of four, two have the last output, which is half and no more; the others win
abbrev halves : List ℕ
halves = 1 ∷ 1 ∷ 2 ∷ 2 ∷ []

half : 2 * votes (having halves 4 1 (output_of halves 1 3)) ≡ 4
unfolding alike tabulate digits
half = refl

half_loses : whole halves 4 1 (0 ∷ []) ≡ record { answer = agreed_by (true ∷ true ∷ replicate 14 false); output = 1 ∷ [] }
unfolding whole through count leader digits tabulate alike first
half_loses = refl
