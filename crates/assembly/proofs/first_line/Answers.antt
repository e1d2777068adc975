-- A line ends at the first line end, or the text has none.
use Rattle.std.proofs.Common.{rules, refl}
use Rattle.assembly.proofs.Splitting.{line_found, no_line}
use Rattle.assembly.proofs.first_line.Goals as goal

pub returns-in_err-end-clause-bytes : goal.returns-in_err-end-clause-bytes
returns-in_err-end-clause-bytes c = rw c.from_residual.ensures (no_line _ _ (search rules) refl)

pub returns-clause-bytes : goal.returns-clause-bytes
returns-clause-bytes c = line_found _ c.in_ok-end.end (search rules) (search rules) (search rules)
