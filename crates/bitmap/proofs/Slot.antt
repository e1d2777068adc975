-- One slot: tested, set and cleared.
use mathlib.Core.Path.{◌≡◌, sym, ap}
use mathlib.Core.Bool.{true, false, and-eq-true_iff}
use mathlib.Core.List.{List}
use Prim.Native.Nat.{ℕ, ◌/◌, ◌*◌, ◌%◌, ◌^◌, ◌<◌, ◌≤◌}
use native.Mathlib.Nat.{zero-div}
use native.Mathlib.Decide.{dec_lt}
use native.Mathlib.Omega.{arith}
use borrow.Author.Tests.{lt-ltb, le-ltb, ltb-true, eqb-true, eqb-false}
use lib.Dec.{ltb, eqb}
use lib.Bits.{bit_or, bit_xor}
use lib.ListN.{length, get_or, set, get_or-eq_default}
use lib.Seq.{set_out}
use Rattle.bitmap.specs.Bitmap.{bit, is_set, put_byte, set_slot, clear_slot}
use Rattle.bitmap.proofs.Byte.{set_bit, clear_bit}

-- a slot past the last byte has no bit
pub bit_past : (b : List ℕ) (i : ℕ) → length b ≤ i / 8 → bit b i ≡ 0
bit_past b i h = rw (get_or-eq_default b 0, zero-div)

-- one of the n slots, and clear
pub record Clear (b : List ℕ) (n i : ℕ) : Type 0 where
  pub slot : i < n
  pub clear : bit b i ≡ 0

module _ (b : List ℕ) (n i : ℕ) where
  -- what a test tells
  pub is_clear_lem : i < n → is_set b n i ≡ false → Clear b n i
  is_clear_lem h e =
      let other : bit b i ≡ 1 → ⊥ = eqb-false (bit b i) 1 (rw (lt-ltb i n h) at e) in
      record { slot = h; clear = omega arith }

  pub is_set_lem : is_set b n i ≡ true → (i < n) × (bit b i ≡ 1)
  is_set_lem e =
      let (slot, set) = (and-eq-true_iff (ltb i n) (eqb (bit b i) 1)).0 e in
      (ltb-true i n slot, eqb-true (bit b i) 1 set)

  -- nothing changes where the slot is beyond the n, or past the last byte
  pub put_beyond : (v : ℕ) → n ≤ i → b ≡ put_byte b n i v
  unfolding put_byte
  put_beyond v h = rw (le-ltb i n, put_byte)

  pub put_past : (v : ℕ) → i < n → length b ≤ i / 8 → b ≡ put_byte b n i v
  unfolding put_byte
  put_past v h l = rw (lt-ltb i n, put_byte) (sym (set_out b (i / 8) v l))

  pub put_out : (v : ℕ) → ((i < n) × (i / 8 < length b) → ⊥) → b ≡ put_byte b n i v
  put_out v none = elim (dec_lt i n) [
    | yes h ↦ elim (dec_lt (i / 8) (length b)) [ yes l ↦ absurd (none (h, l)) | no l ↦ put_past v h (omega arith) ]
    | no h ↦ put_beyond v (omega arith)
  ]

  -- what the code writes
  pub set_within : i < n → set b (i / 8) (bit_or (get_or b (i / 8) 0) (1 * 2 ^ (i % 8) % 256)) ≡ set_slot b n i
  unfolding put_byte
  set_within h = rw (lt-ltb i n, put_byte) (ap (set b (i / 8)) (set_bit (get_or b (i / 8) 0) (i % 8) (omega arith)))

  pub clear_within : i < n → set b (i / 8) (bit_xor (get_or b (i / 8) 0) (bit b i * 2 ^ (i % 8) % 256)) ≡ clear_slot b n i
  unfolding put_byte
  clear_within h = rw (lt-ltb i n, put_byte) (ap (set b (i / 8)) (clear_bit (get_or b (i / 8) 0) (i % 8) (omega arith)))
