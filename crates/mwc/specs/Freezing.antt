-- What it is for a half of the generator to freeze.
use Rattle.std.specs.Prelude.{◌≡◌, ℕ, zero, suc, ◌^◌, ◌<◌, true, ◌⊎◌, ◌↔◌, List}
use Rattle.mwc.specs.declared.Generator.{Generator}
use Rattle.mwc.specs.Draw.{next, is_one_of}

-- both halves after n draws
unfoldable pub after : ℕ → Generator → Generator
after zero g = g
after (suc n) g = next (after n g)

-- a half, z or w, that is zero or that a draw leaves unchanged
abbrev pub Stopped : (Generator → ℕ) → Generator → Type 0
Stopped half g = (half g ≡ 0) ⊎ (half (next g) ≡ half g)

-- a half that comes to that after some number of draws
abbrev pub Freezes : (Generator → ℕ) → Generator → Type 0
Freezes half g = (n : ℕ) × Stopped half (after n g)

-- the same of either half
abbrev pub EitherStopped : Generator → Type 0
EitherStopped g = Stopped (λ h. h.z) g ⊎ Stopped (λ h. h.w) g

abbrev pub EitherFreezes : Generator → Type 0
EitherFreezes g = Freezes (λ h. h.z) g ⊎ Freezes (λ h. h.w) g

-- of a half's non-zero values of 32 bits exactly those listed freeze, and these after one draw at the latest
pub record FreezesAt (values : List ℕ) (half : Generator → ℕ) : Type 0 where
  pub exactly : (g : Generator) → 0 < half g → half g < 2 ^ 32 → Freezes half g ↔ (is_one_of values (half g) ≡ true)
  pub soon : (g : Generator) → is_one_of values (half g) ≡ true → Stopped half (after 1 g)
