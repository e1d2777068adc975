-- `any_over` meets its contract. The loop's invariant: no class before this one is over half.
use Rattle.judge.proofs.Admitting.{NoneBefore}
use Rattle.judge.proofs.any_over.Given as goal

abbrev pub invariant-loop-class : goal.invariant-loop-class
invariant-loop-class l = NoneBefore l.layout l.metadata l.class
