-- `span::other` meets its contract: by long blocks, by shorter ones, and by bytes.
use Prim.Native.Nat.{ℕ}
use mathlib.Core.Path.{refl}
use native.Mathlib.Omega.{arith}
use Rattle.span.proofs.Parts.{byte_laid}
use Rattle.span.proofs.other.Goals as goal

-- the bytes of a long block, as src/lib.rt has them
abbrev long : ℕ
long = 128

pub skip-far-requires : goal.skip-far-requires
skip-far-requires c =
    let a = c.args in
    (omega arith, refl, byte_laid a.byte long long (omega arith) (omega arith))

pub skip-middle-requires : goal.skip-middle-requires
skip-middle-requires c =
    let a = c.args in
    let far = c.skip-far.ensures in
    (omega (arith, far), omega (arith, far), byte_laid a.byte long 32 (omega arith) (omega arith))

pub skip-near-requires : goal.skip-near-requires
skip-near-requires c =
    let a = c.args in
    let middle = c.skip-middle.ensures in
    (omega (arith, middle), omega (arith, middle), byte_laid a.byte long 8 (omega arith) (omega arith))

pub skip-requires : goal.skip-requires
skip-requires c =
    let a = c.args in
    (omega (arith, c.skip-near.ensures), omega arith, byte_laid a.byte long 1 (omega arith) (omega arith))
