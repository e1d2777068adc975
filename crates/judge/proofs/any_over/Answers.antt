-- `any_over` meets its contract. The loop's invariant: no class before this one is over half.
use native.Mathlib.Omega.{arith}
use Rattle.judge.proofs.Admitting.{over_found, over_past}
use Rattle.judge.proofs.any_over.Goals as goal

pub returns-then-slots-count : goal.returns-then-slots-count
returns-then-slots-count c =
    over_found _ _ c.loop-class.invariant (omega arith) c.slots.ensures.0 c.get-count.ensures c.if-slots-count.true

pub loop-class-preserved : goal.loop-class-preserved
loop-class-preserved c =
    over_past _ _ c.loop-class.invariant (omega arith) c.slots.ensures.0 c.get-count.ensures c.if-slots-count.false
