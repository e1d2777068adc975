-- Bitmaps of whole bytes: each is half as long as the one before.
use Prim.Native.Nat.{ℕ, zero, suc, ◌+◌, ◌-◌, ◌*◌, ◌/◌, ◌%◌, ◌^◌, ◌≤◌, ◌<◌}
use mathlib.Core.Path.{◌≡◌, sym, ap, ◌∙◌}
use native.Mathlib.Nat.{pow-suc, mul_comm, mul_assoc, mul-le-mul_left, mul-div_cancel, div-add-mod'}
use native.Mathlib.Omega.{arith}
use lib.Pow.{pow_pos}
use Rattle.geometry.specs.declared.Layout.{Layout}
use Rattle.geometry.specs.Layout.{classes, slot_size, slots, header, bitmap_at}
use Rattle.geometry.proofs.Geometry.{slot_size_of}

-- a literal factor comes to the front
front : (n q p : ℕ) → q * (n * p) ≡ n * (q * p)
front n q p = sym (mul_assoc q n p) ∙ ap (λ x. x * p) (mul_comm q n) ∙ mul_assoc n q p

module _ (G : Layout) where
  -- in a region of q * 2 ^ c times 32 bytes the bitmaps before class c are q * 2 ^ c bytes, without the last q
  halved : (c q : ℕ) → c ≤ classes → G.region ≡ 32 * (q * 2 ^ c) → bitmap_at G c + q ≡ header + q * 2 ^ c
  unfolding bitmap_at
  halved zero q h e = omega arith
  halved (suc c) q h e =
      let p : ℕ = 2 ^ c in
      let twice : q * 2 ^ suc c ≡ 2 * (q * p) = rw pow-suc (sym (mul_assoc q p 2) ∙ mul_comm (q * p) 2) in
      let whole : G.region ≡ 8 * q * (8 * p) = omega (arith, mul_assoc 8 q (8 * p), front 8 q p) in
      let has : slots G c ≡ 8 * q = rw (slot_size_of G {c = c} (omega arith), whole) (mul-div_cancel (8 * q) (omega (arith, pow_pos c))) in
      omega (arith, halved c (2 * q) (omega arith) (omega (arith, mul_assoc 2 q p)), mul_assoc 2 q p)

  -- four slots have bytes
  pub four_slots : {c size : ℕ} → c < classes → size ≡ slot_size G c → 0 < 4 * size
  four_slots {c} h e = omega (arith, e, slot_size_of G {c = c} h, pow_pos c)

  -- so where a region divides that well, the bitmaps before class c need not be summed up
  pub halved_start : {c r size : ℕ} → c < classes → r ≡ G.region → size ≡ slot_size G c → r % (4 * size) ≡ 0
      → (r / (4 * size) ≤ r / 32) × (header + r / 32 - r / (4 * size) ≡ bitmap_at G c)
  halved_start {c} {r} {size} h e f none =
      let four : 4 * size ≡ 32 * 2 ^ c = omega (arith, f, slot_size_of G {c = c} h) in
      let q : ℕ = r / (4 * size) in
      let whole : q * (4 * size) ≡ 32 * (q * 2 ^ c) = ap (λ x. q * x) four ∙ front 32 q (2 ^ c) in
      let region : r ≡ 32 * (q * 2 ^ c) = omega (arith, div-add-mod' r (4 * size)) in
      let least : q * 1 ≤ q * 2 ^ c = mul-le-mul_left q (pow_pos c) in
      (omega arith, omega (arith, halved c q (omega arith) (sym e ∙ region)))
