-- `replaced` meets its contract: at the loop's end all entries are passed.
use native.Mathlib.Omega.{arith}
use Rattle.elect.proofs.Tables.{filled_all}
use Rattle.elect.proofs.replaced.Goals as goal

pub returns : goal.returns
returns c = filled_all c.loop-j.invariant 0 (λ j l m. absurd (omega arith))
