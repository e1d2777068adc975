-- The winner of a table of which two replicas agree.
use Rattle.std.specs.Prelude.{ℕ, zero, suc, ◌+◌, ◌*◌, ◌/◌, ◌%◌, ◌^◌, Bool, true, false, cond, List, [], ◌∷◌, get_or, take, ltb, eqb}
use Rattle.search.specs.First.{first}
use Rattle.search.specs.Tabulate.{tabulate}
use Rattle.elect.specs.declared.Elected.{Elected}

-- replicas of a table
abbrev pub most : ℕ
most = 16

-- a row as digits, replica 0's the lowest
unfoldable pub digits : ℕ → List Bool → ℕ
digits base [] = 0
digits base (yes? ∷ row) = cond yes? 1 0 + base * digits base row

-- how many replicas a row says yes to, and the same replicas as a mask: bit r for replica r
abbrev pub votes : List Bool → ℕ
votes row = digits 1 row

abbrev pub mask_of : List Bool → ℕ
mask_of row = digits 2 row

-- those whose bits are set in a mask, as a row of all
abbrev pub row_of : ℕ → List Bool
row_of mask = tabulate (λ r. eqb (mask / 2 ^ r % 2) 1) 0 most

-- the lowest-numbered of them; of none, the number after the last
abbrev pub lowest_of : List Bool → ℕ
lowest_of row = first (λ r. get_or row r false) 0 most

-- of the first n replicas, the lowest-numbered among those with most votes
unfoldable pub leader : List (List Bool) → ℕ → ℕ
leader table zero = 0
leader table (suc i) =
    let best : ℕ = leader table i in
    elim (ltb (votes (get_or table best [])) (votes (get_or table i []))) [ true ↦ i | false ↦ best ]

-- the leader of the first n, with its votes and the mask of those among them
abbrev pub elected_of : List (List Bool) → ℕ → Elected
elected_of table n =
    let best : ℕ = leader table n in
    let row : List Bool = get_or table best [] in
    record { replica = best; count = votes row; mask = mask_of (take n row) }

-- one number in the place of another
abbrev pub instead : ℕ → ℕ → ℕ → ℕ
instead old new n = cond (eqb n old) new n
