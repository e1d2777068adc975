-- `probe::find` meets its contract. The loop's invariant: the draws that are left come to what all of them do.
use mathlib.Core.Path.{sym, ◌∙◌}
use native.Mathlib.Omega.{arith}
use Rattle.probe.proofs.Probe.{probe_hit, probe_miss, probe_walk}
use Rattle.probe.proofs.find.Goals as goal

pub returns-then-not-is_set : goal.returns-then-not-is_set
returns-then-not-is_set c =
    let slot = rw c.draw.ensures at c.power_remainder-last.ensures in
    sym
    (c.loop.invariant
    ∙ probe_hit _ _ _ _ c.advance-generator.ensures slot (omega arith) (sym c.is_set.ensures ∙ c.if-not-is_set.true))

pub loop-preserved : goal.loop-preserved
loop-preserved c =
    let slot = rw c.draw.ensures at c.power_remainder-last.ensures in
    c.loop.invariant
    ∙ probe_miss _ _ _ _ c.advance-generator.ensures slot c.loop-test.true (sym c.is_set.ensures ∙ c.if-not-is_set.false)

pub returns : goal.returns
returns c = sym (c.loop.invariant ∙ probe_walk _ _ _ _ (omega arith) c.next_clear.ensures)
