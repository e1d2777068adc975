-- `entries` meets its contract: one computation over all of its entries.
use mathlib.Core.Path.{refl}
use Rattle.search.specs.First.{first}
use Rattle.search.specs.Tabulate.{tabulate}
use Rattle.sizes.proofs.entries.Goals as goal

pub returns : goal.returns
unfolding tabulate first
returns c = refl
