-- The exit statuses.
use Rattle.std.specs.Prelude.{ℕ, Result, Ok, Err}
use Rattle.program.specs.declared.Status.{Status}
use Rattle.program.specs.declared.Status.TheVariants.{Done, BadLines, Failed}

-- 0 where all went well, 1 where a line is bad, 2 where an argument is unknown or an input or an output failed
abbrev pub status_number : Status → ℕ
status_number Done = 0
status_number BadLines = 1
status_number Failed = 2

-- what the work came to, or that an input or an output failed in it
abbrev pub status_of : {E : Type 0} → Result Status E → Status
status_of (Ok status) = status
status_of (Err failed) = Failed
