-- The digits behind `start` and the number that is left spell the number.
use Rattle.decimal.proofs.Spelling.{Spelled}
use Rattle.decimal.proofs.Digits.of.Given as goal

abbrev pub invariant-loop-rest : goal.invariant-loop-rest
invariant-loop-rest l = Spelled l.n l.text l.start l.rest

abbrev pub decreases-loop-rest : goal.decreases-loop-rest
decreases-loop-rest l = l.rest
