-- `power` meets its contract: a shift of 1 is a power of two.
use native.Mathlib.Omega.{arith}
use lib.Dec.{lit<}
use lib.Pow.{pow_mono, shl_exact}
use mathlib.Core.Path.{◌∙◌}
use Prim.Native.Nat.{◌^◌}
use native.Mathlib.Nat.{one-mul}
use Rattle.geometry.proofs.power.Goals as goal

pub returns : goal.returns
returns c =
    let e = c.args.exponent in
    let q = shl_exact {a = 1} 1 e 32 (lit< tt) (omega arith) ∙ one-mul (2 ^ e) in
    (q, rw q (pow_mono {i = e} {j = 21} (omega arith)))
