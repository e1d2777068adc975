-- How comparing and counting go about their work. What the vote promises rests on `Decide` alone.
use Rattle.std.specs.Prelude.{ℕ, ◌+◌, ◌*◌, ◌≤◌, ◌<◌, ◌≡◌, Bool, false, cond, ◌&&◌, List, [], length, get_or, eqb, ltb}
use Rattle.std.specs.Prelude.{Result, Ok, Err}
use Rattle.answer.specs.declared.Refusal.{Refusal}
use Rattle.answer.specs.declared.Refusal.TheVariants.{NoAgreement}
use Rattle.search.specs.First.{first}
use Rattle.search.specs.Tabulate.{tabulate}
use Rattle.vote.specs.declared.Places.{Places}
use Rattle.elect.specs.declared.Elected.{Elected}
use Rattle.elect.specs.Leader.{most, votes, mask_of, leader}
use Rattle.vote.specs.Decide.{agree}

-- what comparing relies on: no more replicas than sixteen, and at least one; none votes past them; all bytes are there
pub record Placed (voting : List Bool) (outputs : List ℕ) (p : Places) : Type 0 where
  pub some : 0 < p.replicas
  pub few : p.replicas ≤ most
  pub none_past : (r : ℕ) → p.replicas ≤ r → get_or voting r false ≡ false
  pub within : (r : ℕ) → r < p.replicas → r * p.apart + p.at + p.len ≤ length outputs

-- the group of a replica: the first replica that agrees with it, which is itself where none before it does
abbrev pub group_of : List Bool → (ℕ → List ℕ) → ℕ → ℕ
group_of voting block i = first (λ r. agree voting block r i) 0 i

abbrev pub groups_of : List Bool → (ℕ → List ℕ) → List ℕ
groups_of voting block = tabulate (group_of voting block) 0 most

-- replica i votes, and j is of its group
abbrev pub together : List Bool → List ℕ → ℕ → ℕ → Bool
together voting groups i j = get_or voting i false && eqb (get_or groups i 0) (get_or groups j 0)

-- what counting relies on: at least one replica, no more than sixteen, and past them nobody who agrees with anyone
pub record Countable (table : List (List Bool)) (k : ℕ) : Type 0 where
  pub some : 0 < k
  pub few : k ≤ most
  pub rows : (i j : ℕ) → i < most → k ≤ i → get_or (get_or table i []) j false ≡ false
  pub columns : (i j : ℕ) → i < most → k ≤ j → get_or (get_or table i []) j false ≡ false

-- the leader of all, with its votes and their mask
abbrev pub winner_of : List (List Bool) → Elected
winner_of table =
    let best : ℕ = leader table most in
    let row : List Bool = get_or table best [] in
    record { replica = best; count = votes row; mask = mask_of row }

-- the leader wins with two votes or more
abbrev pub elects : List (List Bool) → Result Elected Refusal
elects table = let best : Elected = winner_of table in cond (ltb best.count 2) (Err NoAgreement) (Ok best)
