-- Draws modulo p, where p + 1 is the multiplier times 65,536: 65,536 times the next value is the half. So p divides what
-- a draw leaves unchanged, and what a draw makes a multiple of p was one before.
use Rattle.std.proofs.Common.{◌≡◌, ℕ, suc, ◌+◌, ◌-◌, ◌*◌, ◌%◌, ◌<◌, sym, ap, ◌∙◌, subst, mul_assoc, suc-mul, mul_right_comm, arith}
use Prim.Native.Nat.{◌∣◌}
use native.Mathlib.Nat.{dvd-mul_left, dvd-mul_right}
use native.Mathlib.Nat.{dvd-mul_left_of_dvd, dvd-mul_right_of_dvd, dvd-add_iff_left, dvd-add_iff_right}
use Rattle.mwc.specs.Draw.{step}

abbrev pub modulus : ℕ → ℕ
modulus multiplier = multiplier * 65536 - 1

module _ (a : ℕ) (some : 0 < a) where
  shifted : (x : ℕ) → 65536 * step a x ≡ x + modulus a * (x % 65536)
  shifted x =
      let low : ℕ = x % 65536 in
      let whole : a * 65536 ≡ suc (modulus a) = omega arith in
      let product : a * low * 65536 ≡ modulus a * low + low =
      sym (mul_right_comm a 65536 low) ∙ ap (λ n. n * low) whole ∙ suc-mul (modulus a) low in
      omega arith

  pub divides_before : (x : ℕ) → modulus a ∣ step a x → modulus a ∣ x
  divides_before x h =
      let p : ℕ = modulus a in
      let low : ℕ = x % 65536 in
      let sum : p ∣ x + p * low = subst (λ n. p ∣ n) (shifted x) (dvd-mul_left_of_dvd p h 65536) in
      (dvd-add_iff_left p (dvd-mul_right p low)).1 sum

  -- where u is an inverse of 65,535
  pub divides_fixed : (u v : ℕ) → u * 65535 ≡ suc (v * modulus a) → (x : ℕ) → step a x ≡ x → modulus a ∣ x
  divides_fixed u v inverse x e =
      let p : ℕ = modulus a in
      let low : ℕ = x % 65536 in
      let multiple : 65535 * x ≡ p * low = omega (arith, shifted x) in
      let sum : u * (p * low) ≡ v * p * x + x =
      ap (λ n. u * n) (sym multiple) ∙ sym (mul_assoc u 65535 x) ∙ ap (λ n. n * x) inverse ∙ suc-mul (v * p) x in
      let divided : p ∣ v * p * x + x = subst (λ n. p ∣ n) sum (dvd-mul_left_of_dvd p (dvd-mul_right p low) u) in
      (dvd-add_iff_right p (dvd-mul_right_of_dvd p (dvd-mul_left p v) x)).1 divided
