-- `canary::fill_slots` meets its contract. The loop's invariant: the slots of the classes before this one are filled.
use Rattle.canary.proofs.Slots.{Partly}
use Rattle.canary.proofs.fill_slots.Given as goal

abbrev pub invariant-loop-class : goal.invariant-loop-class
invariant-loop-class l = Partly l.layout l.canary l.initial.heap l.class l.heap
