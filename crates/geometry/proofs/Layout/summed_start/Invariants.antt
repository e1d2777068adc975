-- `Layout::summed_start` meets its contract. The loop's invariant: the sum up to a class is where its bitmap starts.
use Prim.Native.Nat.{◌+◌, ◌*◌, ◌≤◌}
use mathlib.Core.Path.{◌≡◌}
use Rattle.geometry.specs.Layout.{header, bitmap_at}
use Rattle.geometry.proofs.Layout.summed_start.Given as goal

abbrev pub invariant-loop-passed : goal.invariant-loop-passed
invariant-loop-passed l =
    (l.at ≡ bitmap_at l.self l.passed) × (l.at ≤ header + l.passed * 536870912)
