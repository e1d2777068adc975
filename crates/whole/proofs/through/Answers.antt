-- The blocks before this one are voted on.
use mathlib.Core.Path.{◌≡◌, ap}
use native.Mathlib.Omega.{arith}
use Rattle.std.proofs.Common.{rules}
use Rattle.std.specs.Prelude.{Ok, Err}
use Rattle.answer.specs.declared.Refusal.{Refusal}
use Rattle.vote.specs.declared.Places.{Places}
use Rattle.vote.proofs.Decision.{allowed}
use Rattle.whole.specs.declared.Failure.TheVariants.{Split}
use Rattle.whole.proofs.Blocks.{reached_none, reached_lost, reached_all, reached_more}
use Rattle.whole.proofs.through.Goals as goal

pub loop-left-init : goal.loop-left-init
loop-left-init c = reached_none c.args.outputs.now c.args.output.now (allowed c.requires) c.first-still.ensures

-- no two agree in this block
pub returns-in_err-left : goal.returns-in_err-left
returns-in_err-left c =
    let split : c.from_residual.result ≡ Err (Split c.loop-left.block) = search rules in
    let lost : (q : Refusal) × (c.step.result ≡ Err q) = search rules in
    rw split (reached_lost c.loop-left.invariant (rw c.block_at-p.ensures at c.step.ensures) lost.1)

pub returns-then-ended : goal.returns-then-ended
returns-then-ended c =
    let size = ap (λ (p : Places). p.len) c.block_at-p.ensures in
    let stepped = rw c.block_at-p.ensures at c.step.ensures in
    let won : c.step.result ≡ Ok c.in_ok-left.left = search rules in
    reached_all c.loop-left.invariant stepped won size (omega arith)

pub loop-left-preserved : goal.loop-left-preserved
loop-left-preserved c =
    let size = ap (λ (p : Places). p.len) c.block_at-p.ensures in
    let stepped = rw c.block_at-p.ensures at c.step.ensures in
    let won : c.step.result ≡ Ok c.in_ok-left.left = search rules in
    reached_more c.loop-left.invariant stepped won size (λ e. omega arith)
