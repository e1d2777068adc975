-- `heap::look` meets its contract: metadata that were admitted fit.
use Rattle.heap.proofs.Admitted.{admitted_alone}
use Rattle.heap.proofs.look.Goals as goal

pub invariant_of-lent : goal.invariant_of-lent
invariant_of-lent c = record { fits = admitted_alone _ _ c.in_ok-layout.ensures }
