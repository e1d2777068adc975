-- `probe::find` meets its contract. The loop's invariant: the draws that are left come to what all of them do.
use Prim.Native.Nat.{◌-◌}
use mathlib.Core.Path.{◌≡◌}
use Rattle.probe.specs.Probe.{probe, draws}
use Rattle.probe.proofs.find.Given as goal

abbrev pub invariant-loop : goal.invariant-loop
invariant-loop l =
    probe l.bitmap l.slots l.initial.generator l.initial.last draws ≡ probe l.bitmap l.slots l.generator l.last (draws - l.counter)
