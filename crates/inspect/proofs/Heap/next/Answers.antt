-- `Heap::next` meets its contract. The loop's invariant: no hit lies between `from` and the class's region.
use Prim.Native.Nat.{◌*◌, ◌≤◌}
use mathlib.Core.Path.{sym, ◌∙◌}
use native.Mathlib.Nat.{mul-le-mul_right}
use native.Mathlib.Numerals.{add-one}
use native.Mathlib.Omega.{arith}
use Rattle.search.proofs.First.{first_none}
use Rattle.geometry.specs.Layout.{classes}
use Rattle.rules.specs.Inspect.{is_hit}
use Rattle.inspect.proofs.Within.{is_nowhere}
use Rattle.inspect.proofs.Region.{turn_inside, turn_found, turn_over}
use Rattle.inspect.proofs.Heap.next.Goals as goal

pub next_in_region-requires : goal.next_in_region-requires
next_in_region-requires c =
    let h = c.args.self.now in
    rw c.max.ensures
    (turn_inside h.layout c.args.from c.loop-class.class h.some h.fits.heap c.loop-class.invariant.reached c.loop-class-test.true)

pub returns-in-Some : goal.returns-in-Some
returns-in-Some c =
    let h = c.args.self.now in
    let inv = c.loop-class.invariant in
    turn_found h.layout c.args.from c.loop-class.class h.some h.fits.heap inv.reached c.loop-class-test.true _ inv.passed
    (rw c.max.ensures at c.in-Some.ensures)

pub loop-class-preserved : goal.loop-class-preserved
loop-class-preserved c =
    let h = c.args.self.now in
    let inv = c.loop-class.invariant in
    record {
      reached = omega (arith, inv.reached);
      passed = rw add-one (turn_over h.layout c.args.from c.loop-class.class h.some h.fits.heap inv.reached c.loop-class-test.true _ inv.passed
          (rw c.max.ensures at c.in_default.ensures));
    }

pub returns : goal.returns
returns c =
    let h = c.args.self.now in
    let inv = c.loop-class.invariant in
    let test = is_hit h.layout h.metadata.now h.bytes.now in
    let all : classes * h.layout.region ≤ c.loop-class.class * h.layout.region = mul-le-mul_right h.layout.region c.loop-class-test.false in
    is_nowhere test _ _ (sym (inv.passed ∙ first_none test (omega (arith, h.fits.heap, all)))) (omega (arith, h.fits.heap, all))
