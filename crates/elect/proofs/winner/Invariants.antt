-- The loop's invariant: the leader of the replicas passed, with its votes. The last replica's row is the last passed.
use Prim.Native.Nat.{max, min}
use mathlib.Core.Path.{◌≡◌}
use lib.ListN.{length}
use Rattle.elect.specs.Leader.{most}
use Rattle.elect.proofs.Leading.{Led}
use Rattle.elect.proofs.winner.Given as goal

abbrev pub invariant-loop-i : goal.invariant-loop-i
invariant-loop-i l = Led l.fn.table l.best l.top l.i × (length l.row-items ≡ max (min l.fn.replicas most) 1)
