-- `Layout::summed_start` meets its contract. The loop's invariant: the sum up to a class is where its bitmap starts.
use mathlib.Core.Path.{refl}
use native.Mathlib.Omega.{arith}
use Rattle.geometry.specs.Layout.{bitmap_at}
use Rattle.geometry.proofs.Geometry.{bitmap_next, bitmap_same}
use Rattle.geometry.proofs.Layout.summed_start.Goals as goal

pub loop-passed-init : goal.loop-passed-init
unfolding bitmap_at
loop-passed-init c = (refl, omega arith)

pub loop-passed-preserved : goal.loop-passed-preserved
loop-passed-preserved c = (bitmap_next _ _ c.loop-passed.invariant.0 c.bitmap_length-at.ensures.0, omega arith)

pub returns : goal.returns
returns c = (bitmap_same _ _ _ c.loop-passed.invariant.0 (omega arith), omega arith)
