-- `heap::serve` meets its contract: a heap and metadata that were admitted fit.
use Rattle.heap.proofs.Admitted.{admitted}
use Rattle.heap.proofs.serve.Goals as goal

pub invariant_of-lent : goal.invariant_of-lent
invariant_of-lent c = record { fits = admitted _ _ c.in_ok-layout.ensures }
