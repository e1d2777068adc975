-- A block is the first part of what is left over.
use Rattle.std.proofs.Common.{sym, ◌∙◌}
use borrow.Author.Tests.{not-true, not-false}
use Rattle.alike.proofs.Comparing.{part_same, part_other}
use Rattle.alike.proofs.same_by.Goals as goal

pub returns-then-ne : goal.returns-then-ne
returns-then-ne g c =
    let x = c.in-Some-Some.ensures.cases in
    let y = c.in-Some-Some.ensures'.cases in
    sym (c.loop-x.invariant ∙ part_other _ _ _ (x.0, x.1) (y.0, y.1) (not-true _ (sym c.ne.ensures ∙ c.if-ne.true)))

pub loop-x-preserved : goal.loop-x-preserved
loop-x-preserved g c =
    let x = c.in-Some-Some.ensures.cases in
    let y = c.in-Some-Some.ensures'.cases in
    c.loop-x.invariant ∙ part_same _ _ _ (x.0, x.1) (y.0, y.1) (not-false _ (sym c.ne.ensures ∙ c.if-ne.false))
