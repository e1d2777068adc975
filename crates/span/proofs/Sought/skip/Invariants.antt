-- `Sought::skip` meets its contract. The loop's invariant: no byte sought comes before `at`, and whole blocks do.
use Prim.Native.Nat.{◌+◌, ◌%◌, ◌≤◌}
use mathlib.Core.Path.{◌≡◌}
use lib.ListN.{length}
use Rattle.span.specs.Pattern.{first_sought}
use Rattle.span.proofs.Sought.skip.Given as goal

abbrev pub invariant-loop-left : goal.invariant-loop-left
invariant-loop-left l =
    (l.at ≤ first_sought l.self.equal l.self.period l.self.pattern.now l.bytes) × (l.at % l.block ≡ 0) × (l.at + l.left ≡ length l.bytes)

abbrev pub decreases-loop-left : goal.decreases-loop-left
decreases-loop-left l = l.left
