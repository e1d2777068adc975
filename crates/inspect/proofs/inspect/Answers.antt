-- `inspect::inspect` meets its contract: a heap and metadata that were admitted fit.
use mathlib.Core.Path.{sym}
use Rattle.judge.proofs.Judging.{admit_fits}
use Rattle.inspect.proofs.Region.{admitted_some}
use Rattle.inspect.proofs.inspect.Goals as goal

pub invariant_of-lent : goal.invariant_of-lent
invariant_of-lent c = record {
  fits = (admit_fits _ _ (sym c.in_ok-layout.ensures)).1;
  some = admitted_some _ _ (sym c.in_ok-layout.ensures);
}
