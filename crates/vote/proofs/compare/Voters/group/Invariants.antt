-- `group` meets its contract. The loop's invariant: nobody before `r` agrees with the replica.
use Prim.Native.Nat.{◌-◌, ◌≤◌}
use mathlib.Core.Path.{◌≡◌}
use Rattle.search.specs.First.{first}
use Rattle.vote.specs.Decide.{block_in, agree}
use Rattle.elect.specs.Leader.{row_of}
use Rattle.vote.specs.Groups.{group_of}
use Rattle.vote.proofs.compare.Voters.group.Given as goal

abbrev pub invariant-loop-r : goal.invariant-loop-r
invariant-loop-r l =
    let voting = row_of l.self.voting in
    let block = block_in l.self.outputs.now l.self.places in
    (l.r ≤ l.i) × (group_of voting block l.i ≡ first (λ k. agree voting block k l.i) l.r (l.i - l.r))
