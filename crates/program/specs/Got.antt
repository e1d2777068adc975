-- What a read comes to, by the answer to it.
use Rattle.std.specs.Prelude.{ℕ, Result, Ok, Err}
use Rattle.program.specs.declared.Got.{Got}
use Rattle.program.specs.declared.Failed.{Failed}

-- a number says how many bytes came, and an error that it failed
abbrev pub got_of : {E : Type 0} → Result ℕ E → Result Got Failed
got_of (Ok k) = Ok (record { count = k })
got_of (Err error) = Err (record {})
