-- A byte's bits: setting one, clearing one.
use mathlib.Core.Path.{◌≡◌, refl, sym, ap, ◌∙◌}
use Prim.Native.Nat.{ℕ, zero, suc, ◌+◌, ◌-◌, ◌*◌, ◌/◌, ◌%◌, ◌^◌, ◌<◌}
use native.Mathlib.Nat.{zero-mul, sub-zero, pow-suc, add-div_right}
use native.Mathlib.Numerals.{one-add}
use native.Mathlib.Omega.{arith}
use lib.Bits.{bit_and, bit_or, bit_xor, and_high, or_add_and, xor_add_and, xor_zero_r}
use lib.Pow.{pow_pos, high_ones, shl_exact, shr-shr}

-- a bit shifted to its place in a byte
pub weight : (d k : ℕ) → d < 2 → k < 8 → d * 2 ^ k % 256 ≡ d * 2 ^ k
weight d k h l = shl_exact 1 k 8 h (omega arith)

-- `or` with the weight p adds it where x does not have it, `xor` takes it off where x has it
module _ (x p : ℕ) where
  or_bit : (d : ℕ) → d < 2 → bit_and x (1 * p) ≡ d * p → bit_or x (1 * p) ≡ x + (1 - d) * p
  or_bit zero h e = omega (arith, or_add_and x (1 * p))
  or_bit (suc zero) h e = omega (arith, or_add_and x (1 * p))
  or_bit (suc (suc d)) h e = omega arith

  xor_bit : (d : ℕ) → d < 2 → bit_and x (1 * p) ≡ d * p → bit_xor x (d * p) ≡ x - d * p
  xor_bit zero h e = rw (zero-mul, sub-zero) (xor_zero_r x)
  xor_bit (suc zero) h e = omega (arith, xor_add_and x (1 * p))
  xor_bit (suc (suc d)) h e = omega arith

module _ (x k : ℕ) where
  -- what x has of bit k's weight
  and_bit : bit_and x (1 * 2 ^ k) ≡ x / 2 ^ k % 2 * 2 ^ k
  and_bit = ap (bit_and x) (sym (high_ones 1 k)) ∙ and_high x 1 k

  -- bit k made set, and made clear
  pub set_bit : k < 8 → bit_or x (1 * 2 ^ k % 256) ≡ x + (1 - x / 2 ^ k % 2) * 2 ^ k
  set_bit h = ap (bit_or x) (weight 1 k (omega arith) h) ∙ or_bit x (2 ^ k) _ (omega arith) and_bit

  pub clear_bit : k < 8 → bit_xor x (x / 2 ^ k % 2 * 2 ^ k % 256) ≡ x - x / 2 ^ k % 2 * 2 ^ k
  clear_bit h = ap (bit_xor x) (weight _ k (omega arith) h) ∙ xor_bit x (2 ^ k) _ (omega arith) and_bit

-- a bit above the lowest is one of the half
bit_half : (x q : ℕ) → x / 2 ^ suc q % 2 ≡ x / 2 / 2 ^ q % 2
bit_half x q = rw (shr-shr x 1 q, one-add)

-- a weight added turns its bit
pub add_here : (x p : ℕ) → (x + 2 ^ p) / 2 ^ p % 2 ≡ 1 - x / 2 ^ p % 2
add_here x p = omega (arith, add-div_right x (pow_pos p))

-- and where the bit was clear, it leaves the others
pub add_other : (x p q : ℕ) → x / 2 ^ p % 2 ≡ 0 → (q ≡ p → ⊥) → (x + 2 ^ p) / 2 ^ q % 2 ≡ x / 2 ^ q % 2
add_other x zero zero e h = absurd (h refl)
add_other x zero (suc q) e h =
    let half : (x + 1) / 2 ≡ x / 2 = omega arith in
    simp (bit_half, half)
add_other x (suc p) zero e h = omega (arith, pow-suc 2 p)
add_other x (suc p) (suc q) e h =
    let half : (x + 2 ^ suc p) / 2 ≡ x / 2 + 2 ^ p = omega (arith, pow-suc 2 p) in
    simp (bit_half, half) (add_other (x / 2) p q (rw bit_half at e) (λ f. h (ap suc f)))
