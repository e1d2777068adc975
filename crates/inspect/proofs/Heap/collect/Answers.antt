-- `Heap::collect` meets its contract. The loop's invariant: the hits before `at` are counted, and written as far as the list goes.
use native.Mathlib.Omega.{arith}
use Rattle.inspect.proofs.Within.{found_within}
use Rattle.inspect.proofs.Listing.{listing_length, listing_over, listing_room, listing_more, listing_past}
use Rattle.inspect.proofs.Heap.collect.Goals as goal
use Rattle.inspect.proofs.Heap.collect.Goals.{then-found-list, else-found-list}

pub overflow_add-found : goal.overflow_add-found
overflow_add-found c = omega (arith, listing_room _ _ _ c.loop-hit.invariant c.in-Some.ensures)

pub loop-hit-smaller : goal.loop-hit-smaller
loop-hit-smaller c = omega (arith, found_within _ _ _ c.in-Some.ensures)

pub loop-hit-preserved : goal.loop-hit-preserved
loop-hit-preserved c =
    let inv = c.loop-hit.invariant in
    elim c.if-found-list.branch [
      | then-found-list w ↦ rw w.list-is (listing_more _ _ _ inv c.in-Some.ensures (rw (listing_length _ _ _ inv) at w.if-found-list.true))
      | else-found-list w ↦ rw w.list-is (listing_past _ _ _ inv c.in-Some.ensures (rw (listing_length _ _ _ inv) at w.if-found-list.false))
    ]

pub returns : goal.returns
returns c = rw (← c.args.self.now.fits.heap) (listing_over _ _ _ c.loop-hit.invariant c.in_default.ensures)
