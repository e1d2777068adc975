-- `first_clear` meets its contract. The loop's invariant: the walk from `slot` has the whole walk's answer.
use mathlib.Core.Path.{sym, ◌∙◌}
use native.Mathlib.Omega.{arith}
use Rattle.search.proofs.First.{first_found, first_past, first_none}
use Rattle.bitmap.proofs.first_clear.Goals as goal

pub returns-then-not-is_set : goal.returns-then-not-is_set
returns-then-not-is_set c =
    let found = c.loop-slot.invariant ∙ first_found _ (omega arith) (rw (← c.is_set.ensures, c.if-not-is_set.true)) in
    (omega arith, sym found)

pub loop-slot-preserved : goal.loop-slot-preserved
loop-slot-preserved c =
    c.loop-slot.invariant ∙ first_past _ (omega arith) (rw (← c.is_set.ensures, c.if-not-is_set.false))

pub returns : goal.returns
returns c =
    let none = c.loop-slot.invariant ∙ first_none _ c.loop-slot-test.false in
    λ inside. omega arith
