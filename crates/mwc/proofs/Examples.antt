-- What is stopped and what freezes, and lists that do not name what freezes.
use Rattle.std.proofs.Common.{◌≡◌, ℕ, ◌^◌, ◌<◌, false, List, [], ◌∷◌, sym, refl, ◌∙◌, inl, inr, true≢false, arith}
use Rattle.mwc.specs.declared.Generator.{Generator}
use Rattle.mwc.specs.Draw.{frozen_z, is_one_of}
use Rattle.mwc.specs.Freezing.{after, Stopped, Freezes, EitherStopped, FreezesAt}

abbrev pub seeds : ℕ → ℕ → Generator
seeds z w = record { z = z; w = w }

-- zero, and a value that a draw leaves unchanged
zero_stopped : EitherStopped (seeds 0 1)
zero_stopped = inl (inl refl)

fixed_stopped : EitherStopped (seeds 1 0x464f_ffff)
fixed_stopped = inr (inr refl)

-- a value that a draw changes once: it is not stopped yet, and freezes
not_stopped : Stopped (λ g. g.w) (seeds 1 0x8c9f_fffe) → ⊥
not_stopped (inl e) = omega arith
not_stopped (inr e) = omega arith

freezes_later : Freezes (λ g. g.w) (seeds 1 0x8c9f_fffe)
unfolding after
freezes_later = (1, inr refl)

-- what is not listed never freezes
pub never : {values : List ℕ} {half : Generator → ℕ} → FreezesAt values half → (g : Generator) → 0 < half g → half g < 2 ^ 32
    → is_one_of values (half g) ≡ false → Freezes half g → ⊥
never at g some small out f = true≢false (sym ((at.exactly g some small).0 f) ∙ out)

-- near misses: w's list without that value, and z's list
one_missing : FreezesAt (0x464f_ffff ∷ 0xd2ef_fffd ∷ []) (λ g. g.w) → ⊥
unfolding is_one_of
one_missing at = never at (seeds 1 0x8c9f_fffe) (omega arith) (omega arith) refl freezes_later

other_half : FreezesAt frozen_z (λ g. g.w) → ⊥
unfolding is_one_of
other_half at = never at (seeds 1 0x8c9f_fffe) (omega arith) (omega arith) refl freezes_later
