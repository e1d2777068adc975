-- `slots::all` meets its contract. The loop's invariant: the slots of the classes so far are counted.
use mathlib.Core.Path.{refl}
use native.Mathlib.Omega.{arith}
use Rattle.capi.specs.Slots.{slots_before}
use Rattle.capi.proofs.Lookups.{slots_next}
use Rattle.capi.proofs.slots.all.Goals as goal

pub loop-class-init : goal.loop-class-init
unfolding slots_before
loop-class-init c = (refl, omega arith, omega arith)

pub loop-class-preserved : goal.loop-class-preserved
loop-class-preserved c =
    let before = c.loop-class.invariant.0 in
    (slots_next _ _ before c.slots-slots.ensures.0, omega arith, omega arith)
