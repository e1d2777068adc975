-- Each turn's byte is as asked, or the search goes on behind it.
use Rattle.std.proofs.Common.{◌≡◌, length, sym, ◌∙◌, arith}
use Rattle.search.proofs.First.{first_found, first_past, first_none}
use Rattle.line.proofs.finding.Rest.seek.Goals as goal

pub returns-then-is_blank-blank-clause-place : goal.returns-then-is_blank-blank-clause-place
returns-then-is_blank-blank-clause-place c =
    let told = sym c.is_blank.ensures in
    sym (c.loop-at.invariant ∙ first_found _ c.loop-at-test.true (rw told c.if-is_blank-blank.true))

pub loop-at-preserved : goal.loop-at-preserved
loop-at-preserved c =
    let told = sym c.is_blank.ensures in
    c.loop-at.invariant ∙ first_past _ c.loop-at-test.true (rw told c.if-is_blank-blank.false)

pub returns-clause-place : goal.returns-clause-place
returns-clause-place c =
    let last : c.loop-at.at ≡ length c.args.self.text.now = omega arith in
    sym (rw last at c.loop-at.invariant ∙ first_none _ (omega arith))
