-- `first_clear` meets its contract. The loop's invariant: the walk from `slot` has the whole walk's answer.
use mathlib.Core.Path.{◌≡◌}
use Prim.Native.Nat.{◌-◌}
use Rattle.search.specs.First.{first}
use Rattle.bitmap.specs.Bitmap.{is_clear}
use Rattle.bitmap.proofs.first_clear.Given as goal

abbrev pub invariant-loop-slot : goal.invariant-loop-slot
invariant-loop-slot l =
    first (is_clear l.bitmap l.slots) l.from (l.slots - l.from) ≡ first (is_clear l.bitmap l.slots) l.slot (l.slots - l.slot)
