-- The metadata of a heap with regions twice as long: one bitmap more in front, and all others a class later.
use Prim.Native.Nat.{ℕ, zero, suc, ◌+◌, ◌*◌, ◌^◌, ◌<◌}
use mathlib.Core.Path.{◌≡◌, refl}
use native.Mathlib.Nat.{pow-suc, mul_comm, mul-div-mul_left, zero-div, zero-lt-suc}
use native.Mathlib.Numerals.{add-one}
use native.Mathlib.Omega.{arith}
use Rattle.geometry.specs.declared.Layout.{Layout}
use Rattle.geometry.specs.Layout.{classes, slot_size, header, bitmap_length, bitmap_at, metadata_length}
use Rattle.geometry.proofs.Geometry.{slot_size_of}

abbrev pub of_region : ℕ → Layout
of_region r = record { region = r }

next : (G : Layout) (c : ℕ) → bitmap_at G (suc c) ≡ bitmap_at G c + bitmap_length G c
unfolding bitmap_at
next G c = refl

module _ (r : ℕ) where
  twice : {c : ℕ} → suc c < classes → slot_size (of_region (2 * r)) (suc c) ≡ 2 * slot_size (of_region r) c
  twice {c} h =
      rw (slot_size_of (of_region (2 * r)) h, slot_size_of (of_region r) {c = c} (omega arith), pow-suc) (omega arith)

  shifted : {c : ℕ} → suc c < classes → bitmap_length (of_region (2 * r)) (suc c) ≡ bitmap_length (of_region r) c
  shifted {c} h = rw (twice h, mul-div-mul_left r (slot_size (of_region r) c) (zero-lt-suc 1))

  start_shifted : (c : ℕ) → c < classes
      → bitmap_at (of_region (2 * r)) (suc c) ≡ bitmap_at (of_region r) c + bitmap_length (of_region (2 * r)) 0
  unfolding bitmap_at
  start_shifted zero h = refl
  start_shifted (suc c) h = omega (arith, start_shifted c (omega arith), shifted h)

-- so for powers of two, as a loop has the lengths
pub doubled_power : (e : ℕ) {m last front : ℕ} → last ≡ bitmap_length (of_region (2 ^ e)) 11
    → front ≡ bitmap_length (of_region (2 ^ (e + 1))) 0
    → m ≡ metadata_length (of_region (2 ^ e))
    → metadata_length (of_region (2 ^ (e + 1))) + last ≡ m + front
doubled_power e p q g =
    let power : 2 ^ (e + 1) ≡ 2 * 2 ^ e = rw (add-one, pow-suc) (mul_comm (2 ^ e) 2) in
    rw (p, q, g, power) (omega (arith, start_shifted (2 ^ e) 11 (omega arith), next (of_region (2 ^ e)) 11))

-- no heap has no bitmaps
pub no_bitmaps : (c : ℕ) → bitmap_at (of_region 0) c ≡ header
unfolding bitmap_at
no_bitmaps zero = refl
no_bitmaps (suc c) = rw (no_bitmaps c, zero-div)
