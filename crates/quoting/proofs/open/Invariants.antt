-- A quote and the bytes before place i are written.
use Rattle.quoting.proofs.Showing.{Opened}
use Rattle.quoting.proofs.open.Given as goal

abbrev pub invariant-loop-i : goal.invariant-loop-i
invariant-loop-i l = Opened l.start l.text l.i
