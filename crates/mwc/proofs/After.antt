-- Draws one after another: some after others, and within 32 bits.
use Rattle.std.proofs.Common.{◌≡◌, ℕ, zero, suc, ◌+◌, ◌^◌, ◌<◌, refl, ap, suc-add, zero-add, arith}
use Rattle.mwc.specs.declared.Generator.{Generator}
use Rattle.mwc.specs.Draw.{next}
use Rattle.mwc.specs.Freezing.{after}
use Rattle.mwc.proofs.Halves.{product}

pub after_next : (n : ℕ) (g : Generator) → after n (next g) ≡ after (suc n) g
unfolding after
after_next zero g = refl
after_next (suc n) g = ap next (after_next n g)

pub after_after : (k n : ℕ) (g : Generator) → after k (after n g) ≡ after (k + n) g
unfolding after
after_after zero n g = rw zero-add
after_after (suc k) n g = rw suc-add (ap next (after_after k n g))

pub after_small : (n : ℕ) (g : Generator) → g.z < 2 ^ 32 → g.w < 2 ^ 32
    → ((after n g).z < 2 ^ 32) × ((after n g).w < 2 ^ 32)
unfolding after
after_small zero g z w = (z, w)
after_small (suc n) g z w =
    let h : Generator = after n g in
    let (z', w') = after_small n g z w in
    (omega (arith, product 36969 h.z (omega arith)), omega (arith, product 18000 h.w (omega arith)))
