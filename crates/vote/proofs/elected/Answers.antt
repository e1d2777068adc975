-- With one vote at most nothing is written, else the winner's block.
use native.Mathlib.Omega.{arith}
use mathlib.Core.Path.{refl, sym, ◌∙◌}
use Rattle.vote.specs.Decide.{block_in}
use Rattle.elect.specs.Leader.{row_of}
use Rattle.vote.proofs.Decision.{elected_by, count_lost, count_won, elects_lost, elects_won, tally_won, count_put}
use Rattle.vote.proofs.elected.Goals as goal

pub returns-then-alone : goal.returns-then-alone
returns-then-alone c =
    let v = c.args.voters in
    let wins = elected_by v.placed c.agreements.ensures c.winner-winner.ensures in
    record {
      elects = sym (elects_lost (row_of v.voting) (block_in v.outputs.now v.places) wins.0 (omega arith));
      counts = rw (count_lost (row_of v.voting) (block_in v.outputs.now v.places) wins.0 (omega arith)) (refl, refl);
    }

-- who leads the table is one of the replicas
pub block-requires : goal.block-requires
block-requires c = (elected_by c.args.voters.placed c.agreements.ensures c.winner-winner.ensures).1

pub returns : goal.returns
returns c =
    let v = c.args.voters in
    let voting = row_of v.voting in
    let block = block_in v.outputs.now v.places in
    let wins = elected_by v.placed c.agreements.ensures c.winner-winner.ensures in
    let won = count_won voting block wins.0 (omega arith) in
    let put = rw c.block.ensures.0 at c.write.ensures.1 in
    record {
      elects = sym (elects_won voting block wins.0 (omega arith));
      counts = (
        tally_won voting block wins.0 (omega arith),
        rw won (put ∙ count_put v.outputs.now c.args.output.now v.places _ c.requires),
      );
    }
