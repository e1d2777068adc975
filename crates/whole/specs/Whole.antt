-- The vote of replicas on whole outputs, block by block.
use Rattle.std.specs.Prelude.{ℕ, zero, suc, ◌+◌, ◌-◌, ◌*◌, ◌/◌, min, Bool, true, false, List, length, Result, Ok, Err}
use Rattle.writing.specs.Overwrite.{overwrite}
use Rattle.answer.specs.declared.Refusal.TheVariants.{NoAgreement, InvalidOutputs}
use Rattle.vote.specs.declared.Places.{Places}
use Rattle.vote.specs.declared.Tally.{Tally}
use Rattle.vote.specs.Decide.{longest, first_of, block_in, invalid, count, won, lost, agreed_by, refused_with}
use Rattle.elect.specs.declared.Elected.{Elected}
use Rattle.whole.specs.declared.Failure.{Failure}
use Rattle.whole.specs.declared.Failure.TheVariants.{Split, Refused}

-- outputs of up to 1,048,576 bytes
abbrev pub longest_output : ℕ
longest_output = 1048576

-- how many blocks an output has, of which the last may be shorter
abbrev pub blocks : ℕ → ℕ
blocks len = (len + longest - 1) / longest

-- the block from a place on, of k outputs that lie one after another
abbrev pub block_at : ℕ → ℕ → ℕ → Places
block_at k len at = record { replicas = k; apart = len; at = at; len = min longest (len - at) }

-- the answer, and the output afterwards
pub record Voted : Type 0 where
  pub answer : Tally
  pub output : List ℕ

-- n blocks from block j on: who is outside the winners of a block takes no part in later ones, and the block in which
-- no two agree is the value
unfoldable pub through : List ℕ → ℕ → ℕ → ℕ → ℕ → List Bool → List ℕ → Voted
through outputs k len zero j still out = record { answer = agreed_by still; output = out }
through outputs k len (suc n) j still out =
    elim (count still (block_in outputs (block_at k len (longest * j)))) [
      | won winners block ↦ through outputs k len n (suc j) winners (overwrite out (longest * j) block)
      | lost r ↦ record { answer = refused_with r j; output = out }
    ]

-- all blocks, by the first k replicas (the paper's bad outputs where the numbers are not allowed)
unfoldable pub whole : List ℕ → ℕ → ℕ → List ℕ → Voted
whole outputs k len out =
    elim (invalid longest_output (length outputs) k len (length out)) [
      | true ↦ record { answer = refused_with InvalidOutputs 0; output = out }
      | false ↦ through outputs k len (blocks len) 0 (first_of k) out
    ]

-- the numbers of an answer
abbrev pub answer_of : Result Elected Failure → Tally
answer_of (Ok e) = record { number = 0; mask = e.mask; value = e.count; replica = e.replica }
answer_of (Err (Split block)) = refused_with NoAgreement block
answer_of (Err (Refused r)) = refused_with r 0
