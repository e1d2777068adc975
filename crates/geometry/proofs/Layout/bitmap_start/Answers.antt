-- `Layout::bitmap_start` meets its contract: a law of `Halving`, or the sum.
use mathlib.Core.Path.{refl}
use native.Mathlib.Omega.{arith}
use Rattle.geometry.proofs.Geometry.{slot_size_le}
use Rattle.geometry.proofs.Halving.{four_slots, halved_start}
use Rattle.geometry.proofs.Layout.bitmap_start.Goals as goal

pub overflow_mul-four : goal.overflow_mul-four
overflow_mul-four c =
    let a = c.args in
    omega (arith, c.slot_size-four.ensures, slot_size_le a.self a.class)

pub nonzero_rem-region : goal.nonzero_rem-region
nonzero_rem-region c = four_slots _ c.if-class-lt-CLASSES.true c.slot_size-four.ensures

pub nonzero_div-result-then-region-four-eq0 : goal.nonzero_div-result-then-region-four-eq0
nonzero_div-result-then-region-four-eq0 c = four_slots _ c.if-class-lt-CLASSES.true c.slot_size-four.ensures

-- the region divides well
pub overflow_sub-result : goal.overflow_sub-result
overflow_sub-result c =
    omega (arith, (halved_start _ c.if-class-lt-CLASSES.true refl c.slot_size-four.ensures c.if-region-four-eq0.true).0)

pub returns-then-region-four-eq0 : goal.returns-then-region-four-eq0
returns-then-region-four-eq0 c =
    let start =
    halved_start _ c.if-class-lt-CLASSES.true refl c.slot_size-four.ensures c.if-region-four-eq0.true in
    (start.1, omega arith)
