-- One class's bitmap: bytes b that hold n slots. Bits beyond the n are of no slot.
use Rattle.std.specs.Prelude.{ℕ, zero, suc, ◌+◌, ◌-◌, ◌*◌, ◌/◌, ◌%◌, ◌^◌, Bool, true, false, not, cond, ◌&&◌, List, get_or, set, ltb, eqb}
use Rattle.search.specs.First.{first}

-- slot i's bit: bit i mod 8 of byte i/8; 0 past the last byte
abbrev pub bit : List ℕ → ℕ → ℕ
bit b i = get_or b (i / 8) 0 / 2 ^ (i % 8) % 2

-- whether slot i is set (the paper's live)
abbrev pub is_set : List ℕ → ℕ → ℕ → Bool
is_set b n i = ltb i n && eqb (bit b i) 1

-- slot i's byte made v, where the slot is one of the n
unfoldable pub put_byte : List ℕ → ℕ → ℕ → ℕ → List ℕ
put_byte b n i v = elim (ltb i n) [ true ↦ set b (i / 8) v | false ↦ b ]

-- slot i made set: its weight is added where it is clear
abbrev pub set_slot : List ℕ → ℕ → ℕ → List ℕ
set_slot b n i = put_byte b n i (get_or b (i / 8) 0 + (1 - bit b i) * 2 ^ (i % 8))

-- slot i made clear: its weight is taken off where it is set
abbrev pub clear_slot : List ℕ → ℕ → ℕ → List ℕ
clear_slot b n i = put_byte b n i (get_or b (i / 8) 0 - bit b i * 2 ^ (i % 8))

-- how many of the first n slots are set
unfoldable pub count_set : List ℕ → ℕ → ℕ
count_set b zero = 0
count_set b (suc i) = bit b i + count_set b i

abbrev pub is_clear : List ℕ → ℕ → ℕ → Bool
is_clear b n i = not (is_set b n i)

-- the next clear slot above the last one tested, going on from slot 0 past the end (the paper's walk); n where all are
-- set
unfoldable pub next_clear : List ℕ → ℕ → ℕ → ℕ
next_clear b n last =
    let above : ℕ = first (is_clear b n) (suc last) (n - suc last) in
    cond (ltb above n) above (first (is_clear b n) 0 n)
