-- `canary::fill` meets its contract. The loop's invariant: filled up to `at`, whole canaries or all, and then the bytes as they were.
use mathlib.Core.Path.{refl}
use native.Mathlib.Omega.{arith}
use Rattle.canary.proofs.Filling.{front_length, first_kept, first_front, repeat_more, copy_fits, copy_whole}
use Rattle.canary.proofs.fill.Goals as goal

pub loop-at-init : goal.loop-at-init
loop-at-init c =
    let a = c.args in
    let words = c.fill_words-2.ensures in (
      rw (first_kept a.canary a.bytes.now 1024 words (omega arith)) (omega arith),
      λ more. (refl, omega arith),
      refl,
      first_front a.canary a.bytes.now 1024 words (omega arith),
    )

pub loop-at-preserved : goal.loop-at-preserved
loop-at-preserved c =
    let loop = c.loop-at in
    let part = c.min.ensures in
    let len = c.min-len.ensures in
    let (ends, past, short) = copy_fits _ _ loop.at part len (omega arith) in
    let (whole, some) = loop.invariant.1 (omega arith) in
    let more = repeat_more _ _ loop.at c.min-len.result whole past loop.invariant.3 c.repeat.ensures in (
      omega (arith, ends),
      λ l. (copy_whole _ _ loop.at part len (omega arith) refl whole (omega arith), omega arith),
      front_length _ _ _ (omega (arith, ends)) more,
      more,
    )
