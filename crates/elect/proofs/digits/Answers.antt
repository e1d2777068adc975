-- The next sum fits.
use Prim.Native.Nat.{◌-◌}
use native.Mathlib.Omega.{arith}
use mathlib.Core.Bool.{false}
use lib.ListN.{get_or}
use Rattle.elect.proofs.Rows.{digit, summed_fits}
use Rattle.elect.proofs.digits.Goals as goal

pub overflow_mul-sum : goal.overflow_mul-sum
overflow_mul-sum c = omega (arith, summed_fits c.loop-i.invariant (omega arith) (omega arith))

pub overflow_add-sum : goal.overflow_add-sum
overflow_add-sum c =
    let l = c.loop-i in
    let b = get_or c.args.row (l.i - 1) false in
    omega (arith, digit b, summed_fits l.invariant (omega arith) (omega arith))
