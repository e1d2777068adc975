-- The status that the program ends with.
use Rattle.std.specs.Prelude.{cond, List, ℕ, length, eqb}
use Rattle.program.specs.declared.Status.{Status}
use Rattle.program.specs.declared.Status.TheVariants.{BadLines}

-- after messages are written: that of bad lines, where there is one
unfoldable pub status_after : Status → List ℕ → Status
status_after status messages = cond (eqb (length messages) 0) status BadLines
