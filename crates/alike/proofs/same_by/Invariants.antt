-- What is left over decides.
use Rattle.std.proofs.Common.{◌≡◌, length}
use Rattle.alike.specs.Alike.{alike}
use Rattle.alike.proofs.same_by.Given as goal

abbrev pub invariant-loop-x : goal.invariant-loop-x
invariant-loop-x g l = alike l.a l.b ≡ alike l.rest l.other

abbrev pub decreases-loop-x : goal.decreases-loop-x
decreases-loop-x g l = length l.rest
