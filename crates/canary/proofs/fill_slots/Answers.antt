-- `canary::fill_slots` meets its contract. The loop's invariant: the slots of the classes before this one are filled.
use mathlib.Core.Path.{refl}
use native.Mathlib.Omega.{arith}
use Rattle.canary.proofs.Slots.{partly_none, partly_all, class_filled}
use Rattle.canary.proofs.fill_slots.Goals as goal

pub loop-class-init : goal.loop-class-init
loop-class-init c = partly_none _ _ _

pub loop-class-preserved : goal.loop-class-preserved
loop-class-preserved c =
    let a = c.args in
    class_filled a.layout a.canary a.heap.now c.loop-class.class c.loop-class.invariant refl
    c.slots.ensures.0 c.slot_size.ensures c.min-start.ensures c.min-end.ensures
    c.fill.ensures

pub returns : goal.returns
returns c =
    let a = c.args in
    partly_all a.layout a.canary a.heap.now c.loop-class.class (omega arith) c.loop-class.invariant
