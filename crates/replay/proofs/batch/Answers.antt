-- `batch` writes the lines of an input and leaves the state after it.
use Prim.Native.Nat.{◌-◌, ◌≤◌, ◌<◌}
use native.Mathlib.Omega.{arith}
use mathlib.Core.Path.{refl, ◌∙◌}
use borrow.Author.Tests.{le-leb}
use lib.ListN.{length, take, drop, length-take, length-drop}
use Rattle.std.specs.Slice.Iter.{chunks_rest}
use Rattle.replay.specs.Line.{line_room}
use Rattle.replay.specs.Batch.{replay, requests}
use Rattle.replay.proofs.Replayed.{replayed_all, replayed_more}
use Rattle.replay.proofs.batch.Goals as goal

pub loop-request-preserved : goal.loop-request-preserved
loop-request-preserved c =
    let l = c.loop-request in
    let s = c.step in
    let i = c.in-Some.ensures.steps in
    let p = l.invariant.replayed in
    let size = rw l.invariant.cut at i.1.1 in
    let some : 0 < requests (chunks_rest l.request-iterator) = omega arith in
    let room : line_room ≤ length (take (length l.out - l.done.written) (drop l.done.written l.out)) =
    simp (length-take, length-drop) (omega (arith, p.room)) in
    let e = rw (le-leb line_room _ room) at s.ensures.replayed in
    record {
      next = rw i.0 l.invariant.next;
      finite = tt;
      cut = i.0 ∙ l.invariant.cut;
      replayed =
          replayed_more p c.in-Some.request.now (chunks_rest c.next.new.self) i.1.0 size i.1.2 e.0 s.ensures.in_bounds.1 e.1 e.2
          s.auto.metadata s.auto.heap;
    }

pub returns-in-None-clause-replayed : goal.returns-in-None-clause-replayed
returns-in-None-clause-replayed c =
    let p = c.loop-request.invariant.replayed in
    rw (replayed_all p c.in-None.ensures.steps.1.0) (p.size, refl, p.wrote.bytes, refl)

pub returns-else-accepts-clause-replayed : goal.returns-else-accepts-clause-replayed
unfolding replay
returns-else-accepts-clause-replayed c = rw (← c.if-accepts.ensures) (refl, refl, refl, refl)
