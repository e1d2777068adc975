-- Fewer bytes than a request has are left behind those that are served.
use native.Mathlib.Omega.{arith}
use lib.ListN.{length-take, length-drop}
use Rattle.pieces.proofs.serve.Goals as goal

pub returns-clause-in_bounds : goal.returns-clause-in_bounds
returns-clause-in_bounds c =
    (omega arith, omega (arith, simp (length-take, length-drop) at c.shift-kept.ensures.0))
