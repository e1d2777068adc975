-- The next replica is put into its group.
use native.Mathlib.Omega.{arith}
use Rattle.vote.proofs.Comparing.{groups_more}
use Rattle.vote.proofs.compare.Voters.groups.Goals as goal

pub loop-i-preserved : goal.loop-i-preserved
loop-i-preserved c =
    groups_more c.args.self.placed c.loop-i.invariant (omega arith) c.group.ensures c.replaced-next.ensures
