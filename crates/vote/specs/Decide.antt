-- The vote of replicas on a block of output.
use Rattle.std.specs.Prelude.{ℕ, ◌+◌, ◌*◌, ◌^◌, Bool, true, false, not, ◌&&◌, ◌||◌, List, [], ◌++◌, length, get_or, take, drop, ltb, eqb, Result, Ok, Err}
use Rattle.alike.specs.Alike.{alike}
use Rattle.elect.specs.Leader.{most, votes, mask_of, row_of, lowest_of, leader}
use Rattle.search.specs.Tabulate.{tabulate}
use Rattle.answer.specs.declared.Refusal.{Refusal}
use Rattle.answer.specs.declared.Refusal.TheVariants.{InvalidVote, NoAgreement}
use Rattle.answer.specs.Reply.{number_of}
use Rattle.vote.specs.declared.Places.{Places}
use Rattle.vote.specs.declared.Tally.{Tally}
use Rattle.elect.specs.declared.Elected.{Elected}

-- ---- limits

-- replicas from 3 to `most`, and blocks of up to 4,096 bytes
abbrev pub fewest : ℕ
fewest = 3

abbrev pub longest : ℕ
longest = 4096

-- ---- who votes, and on what

-- the first k replicas, as a row of all sixteen
abbrev pub first_of : ℕ → List Bool
first_of k = tabulate (λ r. ltb r k) 0 most

-- the bytes of replica r, where outputs lie one after another
abbrev pub block_in : List ℕ → Places → ℕ → List ℕ
block_in outputs p r = take p.len (drop (r * p.apart + p.at) outputs)

-- ---- comparing

-- replicas i and j both vote, and for the same bytes
abbrev pub agree : List Bool → (ℕ → List ℕ) → ℕ → ℕ → Bool
agree voting block i j = get_or voting i false && get_or voting j false && alike (block i) (block j)

-- those who vote for a content
abbrev pub sharing : List Bool → (ℕ → List ℕ) → List ℕ → List Bool
sharing voting block content = tabulate (λ r. get_or voting r false && alike content (block r)) 0 most

-- a row for each replica, which says of each whether the two agree
abbrev pub row : List Bool → (ℕ → List ℕ) → ℕ → List Bool
row voting block i = tabulate (agree voting block i) 0 most

abbrev pub agreements : List Bool → (ℕ → List ℕ) → List (List Bool)
agreements voting block = tabulate (row voting block) 0 most

-- ---- the decision

-- a number of replicas, a length of up to so many bytes, a lent length or an output that is not allowed (the paper's bad
-- ballot)
abbrev pub invalid : ℕ → ℕ → ℕ → ℕ → ℕ → Bool
invalid limit lent k size room =
    ltb k fewest
    || ltb most k
    || ltb size 1
    || ltb limit size
    || not (eqb lent (k * size))
    || ltb room size

-- what a vote comes to: the row of the winning replicas and the block that they share, or a refusal
pub data Decision : Type 0 where
  won : List Bool → List ℕ → Decision
  lost : Refusal → Decision

-- the content of the leader wins if two or more share it (the paper's no two alike where they do not)
unfoldable pub count : List Bool → (ℕ → List ℕ) → Decision
count voting block =
    let table : List (List Bool) = agreements voting block in
    let best : ℕ = leader table most in
    elim (ltb (votes (get_or table best [])) 2) [
      | true ↦ lost NoAgreement
      | false ↦ won (get_or table best []) (block best)
    ]

-- blocks of one size side by side
abbrev pub side_by_side : ℕ → ℕ → Places
side_by_side k size = record { replicas = k; apart = size; at = 0; len = size }

-- the first k replicas vote on them
unfoldable pub decide : List ℕ → ℕ → ℕ → ℕ → Decision
decide blocks k size room =
    elim (invalid longest (length blocks) k size room) [
      | true ↦ lost InvalidVote
      | false ↦ count (first_of k) (block_in blocks (side_by_side k size))
    ]

-- ---- a step of a longer vote

-- replicas, voters, bytes or an output that are not there
abbrev pub misplaced : ℕ → ℕ → Places → ℕ → Bool
misplaced lent still p room =
    ltb p.replicas 1
    || ltb most p.replicas
    || not (ltb still (2 ^ p.replicas))
    || ltb p.apart (p.at + p.len)
    || ltb lent (p.replicas * p.apart)
    || ltb room p.len

-- those who are still in, a bit each, vote on a part of their outputs
unfoldable pub step : List ℕ → ℕ → Places → ℕ → Decision
step outputs still p room =
    elim (misplaced (length outputs) still p room) [
      | true ↦ lost InvalidVote
      | false ↦ count (row_of still) (block_in outputs p)
    ]

-- ---- what the caller sees

-- the paper's answer of winners: replica is the number of the lowest-numbered of them
abbrev pub agreed_by : List Bool → Tally
agreed_by row = record { number = 0; mask = mask_of row; value = votes row; replica = lowest_of row }

-- that of a refusal, which names nobody
abbrev pub refused_with : Refusal → ℕ → Tally
refused_with r value = record { number = number_of r; mask = 0; value = value; replica = 0 }

-- on refusal all but the number is 0
abbrev pub tally : Decision → Tally
tally (won row block) = agreed_by row
tally (lost r) = refused_with r 0

-- the winning block at the front; further bytes are kept, and a refusal keeps all
abbrev pub output_after : Decision → List ℕ → List ℕ
output_after (won row block) output = block ++ drop (length block) output
output_after (lost r) output = output

-- the numbers of an answer
abbrev pub tally_of : Result Elected Refusal → Tally
tally_of (Ok e) = record { number = 0; mask = e.mask; value = e.count; replica = e.replica }
tally_of (Err r) = refused_with r 0
