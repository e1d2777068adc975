-- `slots::all` meets its contract. The loop's invariant: the slots of the classes so far are counted.
use Prim.Native.Nat.{◌-◌, ◌*◌, ◌≤◌}
use mathlib.Core.Path.{◌≡◌}
use Rattle.geometry.specs.Layout.{classes}
use Rattle.capi.specs.Slots.{slots_before}
use Rattle.capi.proofs.slots.all.Given as goal

abbrev pub invariant-loop-class : goal.invariant-loop-class
invariant-loop-class l =
    (l.slots ≡ slots_before l.layout l.class) × (l.slots ≤ l.class * 4294967296) × (l.class ≤ classes)

abbrev pub decreases-loop-class : goal.decreases-loop-class
decreases-loop-class l = classes - l.class
