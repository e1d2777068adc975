-- Setting and clearing change one slot's bit.
use mathlib.Core.Path.{◌≡◌, sym}
use mathlib.Core.List.{List}
use Prim.Native.Nat.{ℕ, ◌+◌, ◌-◌, ◌*◌, ◌/◌, ◌%◌, ◌^◌, ◌<◌, ◌≤◌}
use native.Mathlib.Nat.{one-mul, mul-le-mul_right, div-mul-le_self}
use native.Mathlib.Decide.{ℕ_discrete}
use native.Mathlib.Omega.{arith}
use borrow.Author.Tests.{lt-ltb}
use lib.ListN.{length, get_or, set, length-set}
use lib.Seq.{get_or-set_same, get_or-set_other}
use Rattle.bitmap.specs.Bitmap.{bit, put_byte, set_slot, clear_slot}
use Rattle.bitmap.proofs.Byte.{add_here, add_other}

-- slot i's bit is now v, and the others are as they were
pub record Turned (b b' : List ℕ) (i v : ℕ) : Type 0 where
  pub fits : length b' ≡ length b
  pub here : bit b' i ≡ v
  pub elsewhere : (j : ℕ) → (j ≡ i → ⊥) → bit b' j ≡ bit b j

module _ (b : List ℕ) (n i : ℕ) (slot : i < n) (byte : i / 8 < length b) where
  -- a byte made one that differs in slot i's bit alone
  put_turns : (v d : ℕ) → v / 2 ^ (i % 8) % 2 ≡ d
      → ((q : ℕ) → (q ≡ i % 8 → ⊥) → v / 2 ^ q % 2 ≡ get_or b (i / 8) 0 / 2 ^ q % 2) → Turned b (put_byte b n i v) i d
  unfolding put_byte
  put_turns v d e same =
      let put : get_or (set b (i / 8) v) (i / 8) 0 ≡ v = get_or-set_same b (i / 8) v 0 byte in
      rw (lt-ltb i n slot, put_byte) record {
        fits = length-set b (i / 8) v;
        here = rw put e;
        elsewhere = λ j f. elim (ℕ_discrete (j / 8) (i / 8)) [
          | yes q ↦ rw (q, put) (same (j % 8) (omega arith))
          | no q ↦ rw (get_or-set_other b (i / 8) (j / 8) v 0 q)
        ];
      }

  -- a clear slot set, and a set one cleared
  pub set_turns : bit b i ≡ 0 → Turned b (set_slot b n i) i 1
  set_turns e =
      let x : ℕ = get_or b (i / 8) 0 in
      let p : ℕ = i % 8 in
      rw (e, one-mul) (put_turns (x + 2 ^ p) 1 (omega (arith, add_here x p)) (λ q. add_other x p q e))

  pub clear_turns : bit b i ≡ 1 → Turned b (clear_slot b n i) i 0
  clear_turns e =
      let x : ℕ = get_or b (i / 8) 0 in
      let p : ℕ = i % 8 in
      let has : 1 * 2 ^ p ≤ x / 2 ^ p * 2 ^ p = mul-le-mul_right (2 ^ p) (omega arith) in
      let back : x - 2 ^ p + 2 ^ p ≡ x = omega (arith, div-mul-le_self x (2 ^ p)) in
      let here : (x - 2 ^ p) / 2 ^ p % 2 ≡ 0 = omega (arith, rw back at (add_here (x - 2 ^ p) p)) in
      rw (e, one-mul) (put_turns (x - 2 ^ p) 0 here (λ q f. sym (rw back at (add_other (x - 2 ^ p) p q here f))))
