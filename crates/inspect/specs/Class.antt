-- One class's slots, side by side as they lie in their region, and what is relied on of them.
use Rattle.std.specs.Prelude.{ℕ, ◌-◌, ◌*◌, ◌%◌, ◌<◌, ◌≡◌, Bool, not, ◌&&◌, cond, ltb, List, length, take, drop}
use Rattle.std.specs.Prelude.{Option, Some, None}
use Rattle.search.specs.First.{first}
use Rattle.bitmap.specs.Bitmap.{is_set}
use Rattle.canary.specs.Canary.{has_damage}

-- slot i is clear, and damaged
abbrev pub is_hit_in : ℕ → List ℕ → List ℕ → ℕ → ℕ → ℕ → Bool
is_hit_in canary bytes bitmap slots size i =
    not (is_set bitmap slots i) && has_damage canary (take size (drop (i * size) bytes))

-- the bytes are so many slots of this size, which is whole canaries
pub record SideBySide (bytes : List ℕ) (slots size : ℕ) : Type 0 where
  pub all : length bytes ≡ slots * size
  pub some : 0 < size
  pub whole : size % 4 ≡ 0

-- the first of the numbers from one up to another that passes, if one does
abbrev pub first_within : (ℕ → Bool) → ℕ → ℕ → Option ℕ
first_within test from to =
    let i : ℕ = first test from (to - from) in
    cond (ltb i to) (Some i) None
