-- `Plan::of` meets its contract. The loop's invariant: what is left of the search finds what the whole one finds, and
-- the metadata's length is that of the regions reached.
use Prim.Native.Nat.{◌+◌, ◌^◌}
use mathlib.Core.Path.{◌≡◌}
use native.Mathlib.Omega.{arith}
use Rattle.geometry.specs.Layout.{classes, metadata_length}
use Rattle.geometry.proofs.Geometry.{region_found, region_past, region_none}
use Rattle.geometry.proofs.Doubling.{of_region, doubled_power, no_bitmaps}
use Rattle.geometry.proofs.Plan.of.Goals as goal

-- the lengths of the first bitmap of twice the region and of the last one of the region
grown : (c : goal.After-bitmap_length-in-loop-exponent)
    → metadata_length (of_region (2 ^ (c.loop-exponent.exponent + 1))) + c.bitmap_length-in-loop-exponent.result
    ≡ c.loop-exponent.metadata + c.bitmap_length.result
grown c =
    let last = rw c.power-in-loop-exponent.ensures.0 at c.bitmap_length-in-loop-exponent.ensures.0 in
    let front = rw c.power-in-loop-exponent-2.ensures.0 at c.bitmap_length.ensures.0 in
    doubled_power c.loop-exponent.exponent last front c.loop-exponent.invariant.1

pub returns-then-heap_len-layout : goal.returns-then-heap_len-layout
returns-then-heap_len-layout c =
    let loop = c.loop-exponent in
    let found = region_found _ loop.invariant.0 (omega arith) (omega arith) in
    rw (c.power-in-loop-exponent.ensures.0, loop.invariant.1, found)

pub overflow_sub-metadata : goal.overflow_sub-metadata
overflow_sub-metadata c = let g = grown c in omega arith

pub loop-exponent-preserved : goal.loop-exponent-preserved
loop-exponent-preserved c =
    let g = grown c in
    let rest = c.loop-exponent.invariant.0 in
    (region_past _ rest (omega arith) (λ q. omega arith), omega arith, omega arith)

pub returns : goal.returns
returns c = rw (← region_none _ c.loop-exponent.invariant.0 (omega arith), no_bitmaps classes)
