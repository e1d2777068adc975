-- Marsaglia's multiply-with-carry pair, the paper's draw. Numbers are below 2 ^ 32.
use Rattle.std.specs.Prelude.{ℕ, ◌+◌, ◌*◌, ◌/◌, ◌%◌, ◌^◌, Bool, false, ◌||◌, List, [], ◌∷◌, ◌==◌}
use Rattle.mwc.specs.declared.Generator.{Generator}

-- one half's next value: the low 16 bits times a multiplier, plus the carry in the high ones
abbrev pub step : ℕ → ℕ → ℕ
step multiplier x = multiplier * (x % 65536) + x / 65536

-- both halves after a draw
abbrev pub next : Generator → Generator
next g = record { z = step 36969 g.z; w = step 18000 g.w }

-- what is drawn, from the halves after the draw
abbrev pub drawn : Generator → ℕ
drawn g = (65536 * g.z + g.w) % 2 ^ 32

-- the values of each half, beside zero, that freeze: draws never change them, or change them once (Freezing.antt)
abbrev pub frozen_z : List ℕ
frozen_z = 0x9068_ffff ∷ []

abbrev pub frozen_w : List ℕ
frozen_w = 0x464f_ffff ∷ 0x8c9f_fffe ∷ 0xd2ef_fffd ∷ []

-- whether a number is in a list
unfoldable pub is_one_of : List ℕ → ℕ → Bool
is_one_of [] x = false
is_one_of (value ∷ values) x = x == value || is_one_of values x

-- seeds that opening refuses (the paper's dead seed)
abbrev pub is_unusable : Generator → Bool
is_unusable g = is_one_of (0 ∷ frozen_z) g.z || is_one_of (0 ∷ frozen_w) g.w
