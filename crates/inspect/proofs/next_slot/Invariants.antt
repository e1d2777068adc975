-- `next_slot` meets its contract. The loop's invariant: no slot before this one is clear and damaged.
use Prim.Native.Nat.{◌-◌}
use mathlib.Core.Path.{◌≡◌}
use Rattle.search.specs.First.{first}
use Rattle.inspect.specs.Class.{is_hit_in}
use Rattle.inspect.proofs.next_slot.Given as goal

abbrev pub invariant-loop-slot : goal.invariant-loop-slot
invariant-loop-slot l =
    let test = is_hit_in l.canary l.bytes l.bitmap l.slots l.size in
    first test l.from (l.slots - l.from) ≡ first test l.slot (l.slots - l.slot)

abbrev pub decreases-loop-slot : goal.decreases-loop-slot
decreases-loop-slot l = l.slots - l.slot
