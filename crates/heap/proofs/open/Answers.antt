-- `heap::open` meets its contract: lengths that were judged right fit.
use Rattle.heap.proofs.Admitted.{laid}
use Rattle.heap.proofs.open.Goals as goal

pub invariant_of-lent : goal.invariant_of-lent
invariant_of-lent c = record { fits = laid _ _ c.in_ok-layout.ensures }
