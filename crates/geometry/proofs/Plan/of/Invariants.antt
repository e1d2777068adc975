-- `Plan::of` meets its contract. The loop's invariant: what is left of the search finds what the whole one finds, and
-- the metadata's length is that of the regions reached.
use Prim.Native.Nat.{◌+◌, ◌-◌, ◌*◌, ◌^◌, ◌≤◌}
use mathlib.Core.Path.{◌≡◌}
use Rattle.search.specs.First.{first}
use Rattle.geometry.specs.Layout.{header, metadata_length}
use Rattle.geometry.proofs.Geometry.{is_heap}
use Rattle.geometry.proofs.Doubling.{of_region}
use Rattle.geometry.proofs.Plan.of.Given as goal

abbrev pub invariant-loop-exponent : goal.invariant-loop-exponent
invariant-loop-exponent l =
    (first (is_heap l.heap_len) 10 (21 - 10) ≡ first (is_heap l.heap_len) l.exponent (21 - l.exponent))
    × (l.metadata ≡ metadata_length (of_region (2 ^ l.exponent)))
    × (l.metadata ≤ header + (l.exponent + 2) * 536870912)
