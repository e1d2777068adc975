-- `Heap::collect` meets its contract. The loop's invariant: the hits before `at` are counted, and written as far as the list goes.
use Prim.Native.Nat.{◌-◌}
use lib.ListN.{length}
use Rattle.rules.specs.Inspect.{is_hit}
use Rattle.inspect.proofs.Listing.{Listing}
use Rattle.inspect.proofs.Heap.collect.Given as goal

abbrev pub invariant-loop-hit : goal.invariant-loop-hit
invariant-loop-hit l = Listing (is_hit l.self.layout l.self.metadata.now l.self.bytes.now) (length l.self.bytes.now) l.initial.list l.list l.found l.at

abbrev pub decreases-loop-hit : goal.decreases-loop-hit
decreases-loop-hit l = length l.self.bytes.now - l.at
