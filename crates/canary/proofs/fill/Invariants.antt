-- `canary::fill` meets its contract. The loop's invariant: filled up to `at`, whole canaries or all, and then the bytes as they were.
use Prim.Native.Nat.{◌-◌, ◌%◌, ◌<◌, ◌≤◌}
use mathlib.Core.Path.{◌≡◌}
use lib.ListN.{length}
use Rattle.canary.specs.Canary.{canary_byte}
use Rattle.canary.proofs.Filling.{Front}
use Rattle.canary.proofs.fill.Given as goal

abbrev pub invariant-loop-at : goal.invariant-loop-at
invariant-loop-at l =
    (l.at ≤ length l.initial.bytes) × (l.at < length l.initial.bytes → (l.at % 4 ≡ 0) × (0 < l.at)) × (length l.bytes ≡ length l.initial.bytes)
    × Front (canary_byte l.canary) l.initial.bytes l.bytes l.at

abbrev pub decreases-loop-at : goal.decreases-loop-at
decreases-loop-at l = length l.initial.bytes - l.at
