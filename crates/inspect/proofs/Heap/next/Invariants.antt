-- `Heap::next` meets its contract. The loop's invariant: no hit lies between `from` and the class's region.
use Prim.Native.Nat.{max, ◌-◌, ◌*◌, ◌/◌, ◌≤◌}
use mathlib.Core.Path.{◌≡◌}
use lib.ListN.{length}
use Rattle.search.specs.First.{first}
use Rattle.rules.specs.Inspect.{is_hit}
use Rattle.inspect.proofs.Heap.next.Given as goal

abbrev pub invariant-loop-class : goal.invariant-loop-class
invariant-loop-class l =
    let h = l.self in
    let test = is_hit h.layout h.metadata.now h.bytes.now in
    let n = length h.bytes.now in
    let at = max l.from (l.class * h.layout.region) in
    record {
      reached : l.from / h.layout.region ≤ l.class;
      passed : first test l.from (n - l.from) ≡ first test at (n - at);
    }
