-- The next row is that of the table.
use native.Mathlib.Omega.{arith}
use Rattle.vote.proofs.Comparing.{rows_more}
use Rattle.vote.proofs.compare.Voters.agreements.Goals as goal

pub loop-i-preserved : goal.loop-i-preserved
loop-i-preserved c =
    rows_more c.args.self.placed c.loop-i.invariant (omega arith) c.groups-groups.ensures c.row.ensures
