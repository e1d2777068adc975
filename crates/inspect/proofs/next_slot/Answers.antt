-- `next_slot` meets its contract. The loop's invariant: no slot before this one is clear and damaged.
use mathlib.Core.Path.{sym, ◌∙◌}
use native.Mathlib.Omega.{arith}
use Rattle.search.proofs.First.{first_none}
use Rattle.inspect.specs.Class.{is_hit_in}
use Rattle.inspect.proofs.Within.{is_found, is_nowhere}
use Rattle.inspect.proofs.Passing.{set_passed, intact_passed, none_intact}
use Rattle.inspect.proofs.next_slot.Goals as goal

pub loop-slot-preserved-then-is_set : goal.loop-slot-preserved-then-is_set
loop-slot-preserved-then-is_set c =
    let loop = c.loop-slot in
    let a = c.args in
    loop.invariant ∙ set_passed a.canary a.bytes.now a.bitmap.now a.slots a.size c.requires loop.slot c.loop-slot-test.true
    (sym c.is_set.ensures ∙ c.if-is_set.true)

pub returns-then-intact-eq0 : goal.returns-then-intact-eq0
returns-then-intact-eq0 c =
    let loop = c.loop-slot in
    let a = c.args in
    let unset = sym c.is_set.ensures ∙ c.if-is_set.false in
    let here = none_intact a.canary a.bytes.now a.bitmap.now a.slots a.size c.requires loop.slot
    c.loop-slot-test.true c.first_damage.ensures c.power_quotient-intact.ensures.0 unset c.if-intact-eq0.true
    in
    is_found (is_hit_in a.canary a.bytes.now a.bitmap.now a.slots a.size) _ _ (sym (loop.invariant ∙ here)) c.loop-slot-test.true

pub loop-slot-preserved : goal.loop-slot-preserved
loop-slot-preserved c =
    let loop = c.loop-slot in
    let a = c.args in
    loop.invariant ∙ intact_passed a.canary a.bytes.now a.bitmap.now a.slots a.size c.requires loop.slot
    c.loop-slot-test.true c.first_damage.ensures c.power_quotient-intact.ensures.0

pub returns : goal.returns
returns c =
    let a = c.args in
    is_nowhere (is_hit_in a.canary a.bytes.now a.bitmap.now a.slots a.size) _ _ (sym (c.loop-slot.invariant ∙ first_none _ (omega arith))) (omega arith)
