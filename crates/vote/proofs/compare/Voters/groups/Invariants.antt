-- `groups` meets its contract. The loop's invariant: the replicas before this one are in their groups.
use Rattle.vote.specs.Decide.{block_in}
use Rattle.elect.specs.Leader.{row_of}
use Rattle.vote.specs.Groups.{group_of}
use Rattle.elect.proofs.Tables.{Filled}
use Rattle.vote.proofs.compare.Voters.groups.Given as goal

abbrev pub invariant-loop-i : goal.invariant-loop-i
invariant-loop-i l =
    let block = block_in l.self.outputs.now l.self.places in
    Filled (group_of (row_of l.self.voting) block) (λ j. j) l.out l.i
