-- `Sought::skip` meets its contract. The loop's invariant: no byte sought comes before `at`, and whole blocks do.
use Prim.Native.Nat.{ℕ, ◌+◌}
use mathlib.Core.Path.{sym, ◌∙◌}
use native.Mathlib.Nat.{add-mod_right}
use native.Mathlib.Omega.{arith}
use borrow.Author.Tests.{ltb-true, ltb-false}
use Rattle.search.proofs.Blocks.{block_last}
use Rattle.span.specs.Pattern.{first_sought}
use Rattle.span.proofs.Parts.{sought_le, block_found}
use Rattle.span.proofs.Sought.skip.Goals as goal

pub overflow_sub-left : goal.overflow_sub-left
overflow_sub-left c =
    let a = c.args in
    omega (arith, sought_le a.self.now.equal a.self.now.period a.self.now.pattern.now a.bytes.now)

pub loop-left-init : goal.loop-left-init
loop-left-init c =
    let a = c.args in
    (c.requires.0, c.requires.1, omega (arith, sought_le a.self.now.equal a.self.now.period a.self.now.pattern.now a.bytes.now))

pub returns-then-is_in : goal.returns-then-is_in
returns-then-is_in c =
    let loop = c.loop-left in
    let a = c.args in
    let end : ℕ = first_sought a.self.now.equal a.self.now.period a.self.now.pattern.now a.bytes.now in
    let found =
    block_found a.self.now.equal a.bytes.now c.requires.2 loop.at loop.invariant.1 (omega arith) loop.invariant.0
    c.is_in.ensures in
    let inside = ltb-true end (loop.at + a.block) (sym found ∙ c.if-is_in.true) in
    block_last loop.at a.block end loop.invariant.1 loop.invariant.0 inside

pub loop-left-preserved : goal.loop-left-preserved
loop-left-preserved c =
    let loop = c.loop-left in
    let a = c.args in
    let end : ℕ = first_sought a.self.now.equal a.self.now.period a.self.now.pattern.now a.bytes.now in
    let found =
    block_found a.self.now.equal a.bytes.now c.requires.2 loop.at loop.invariant.1 (omega arith) loop.invariant.0
    c.is_in.ensures in
    let beyond = ltb-false end (loop.at + a.block) (sym found ∙ c.if-is_in.false) in
    (beyond, add-mod_right loop.at a.block ∙ loop.invariant.1, omega arith)

pub returns : goal.returns
returns c =
    let a = c.args in
    let loop = c.loop-left in
    let end : ℕ = first_sought a.self.now.equal a.self.now.period a.self.now.pattern.now a.bytes.now in
    let within = sought_le a.self.now.equal a.self.now.period a.self.now.pattern.now a.bytes.now in
    block_last loop.at a.block end loop.invariant.1 loop.invariant.0 (omega (arith, within))
