-- A quote is written, and behind it the start of a word, byte by byte.
use Rattle.std.proofs.Common.{ℕ, arith, length-take}
use Rattle.quoting.proofs.Showing.{opened_none, opened_more}
use Rattle.quoting.proofs.open.Goals as goal

pub loop-i-init : goal.loop-i-init
loop-i-init c = opened_none _

pub loop-i-preserved : goal.loop-i-preserved
loop-i-preserved c =
    opened_more c.loop-i.invariant c.loop-i-test.true
    (omega (arith, length-take {A = ℕ})) c.shown_byte.ensures
