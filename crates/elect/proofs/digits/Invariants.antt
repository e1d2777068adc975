-- `digits` meets its contract. The loop's invariant: the digits from `i` on are summed up.
use Rattle.elect.proofs.Rows.{Summed}
use Rattle.elect.proofs.digits.Given as goal

abbrev pub invariant-loop-i : goal.invariant-loop-i
invariant-loop-i l = Summed l.base l.row l.n l.sum l.i
