-- Bytes held against a pattern over and over.
use Rattle.std.specs.Prelude.{ℕ, ◌+◌, ◌%◌, ◌<◌, ◌≤◌, ◌≡◌, Bool, not, List, eqb, length, get_or}
use Rattle.std.specs.Bool.{beq}
use Rattle.search.specs.First.{first}

-- the bytes of a pattern
abbrev pub pattern_size : ℕ
pattern_size = 64

-- whether byte i is another than that of a pattern over and over
abbrev pub is_other : List ℕ → List ℕ → ℕ → Bool
is_other pattern bytes i = not (eqb (get_or bytes i 0) (get_or pattern (i % pattern_size) 0))

-- whether byte i is this one
abbrev pub is_byte : ℕ → List ℕ → ℕ → Bool
is_byte byte bytes i = eqb (get_or bytes i 0) byte

-- ---- both, as they are sought: equal or not

-- byte i of a block, held against the pattern from a place on
abbrev pub is_sought : Bool → List ℕ → ℕ → List ℕ → ℕ → ℕ → Bool
is_sought equal pattern place bytes at i = beq equal (eqb (get_or bytes (at + i) 0) (get_or pattern (place + i) 0))

-- byte i, held against a pattern that begins anew after so many bytes
abbrev pub is_sought_over : Bool → ℕ → List ℕ → List ℕ → ℕ → Bool
is_sought_over equal period pattern bytes i = beq equal (eqb (get_or bytes i 0) (get_or pattern (i % period) 0))

abbrev pub first_sought : Bool → ℕ → List ℕ → List ℕ → ℕ
first_sought equal period pattern bytes = first (is_sought_over equal period pattern bytes) 0 (length bytes)

-- a pattern laid out far enough for blocks that lie side by side
pub record Laid (pattern : List ℕ) (period block : ℕ) : Type 0 where
  pub some : 0 < block
  pub turns : 0 < period
  pub fits : (at : ℕ) → at % block ≡ 0 → at % period + block ≤ length pattern
  pub repeats : (i : ℕ) → i < length pattern → get_or pattern (i % period) 0 ≡ get_or pattern i 0
