-- Quotient and remainder by a number that is one of the 64 powers of two, as its bits tell.
use Prim.Native.Nat.{ℕ, ◌-◌, ◌*◌, ◌%◌, ◌^◌}
use mathlib.Core.Path.{◌≡◌, ◌∙◌}
use native.Mathlib.Nat.{one-mul}
use native.Mathlib.Omega.{arith}
use lib.Bits.{bit_and, and_mask}
use lib.Pow.{shl_exact}

module _ (b k : ℕ) (alike : b ≡ 1 * 2 ^ (k % 64) % 2 ^ 64) where
  power : b ≡ 2 ^ (k % 64)
  power = alike ∙ shl_exact 1 (k % 64) 64 (omega arith) (omega arith) ∙ one-mul (2 ^ (k % 64))

  pub masked : (a : ℕ) → bit_and a (b - 1) ≡ a % b
  masked a = rw power (and_mask a (k % 64))
