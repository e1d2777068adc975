-- Slots that lie side by side: those that hold the canary are passed over at once.
use Prim.Native.Nat.{ℕ, suc, ◌+◌, ◌-◌, ◌*◌, ◌/◌, ◌%◌, ◌<◌, ◌≤◌}
use mathlib.Core.Path.{◌≡◌, refl, sym, ap, ◌∙◌}
use mathlib.Core.Bool.{Bool, true, false, not, and-false, and-true}
use mathlib.Core.List.{List}
use native.Mathlib.Nat.{le_of_eq, zero-mul, add-mul, suc-mul, mul-le-mul_right, mod-lt, div-add-mod'}
use native.Mathlib.Nat.{dvd_of_mod-eq-zero, dvd-mul_left_of_dvd, mod-eq-zero_of_dvd}
use native.Mathlib.Decide.{dec_lt}
use native.Mathlib.Omega.{arith}
use borrow.Author.Tests.{lt-ltb, le-ltb}
use lib.ListN.{length, take, drop, length-drop}
use lib.Seq.{take_all, drop-drop}
use Rattle.search.specs.First.{first}
use Rattle.search.proofs.First.{first_found, first_past, first_skip}
use Rattle.bitmap.specs.Bitmap.{is_set}
use Rattle.canary.specs.Canary.{first_damage, has_damage}
use Rattle.canary.proofs.Damage.{damage_le, part_damage}
use Rattle.inspect.specs.Class.{is_hit_in, SideBySide}

module _ (canary : ℕ) (bytes bitmap : List ℕ) (slots size : ℕ) (lie : SideBySide bytes slots size) where
  abbrev test : ℕ → Bool
  test = is_hit_in canary bytes bitmap slots size

  -- a slot of those from `slot` on, which are so many bytes
  module _ (slot : ℕ) (h : slot < slots) where
    abbrev rest : List ℕ
    rest = drop (slot * size) bytes

    rest_length : slot * size + length rest ≡ slots * size
    rest_length =
        let inside : slot * size ≤ slots * size = mul-le-mul_right size (omega arith) in
        omega (arith, length-drop (slot * size) bytes, lie.all)

    -- slot + i begins i slots on
    bytes_at : (i : ℕ) → take size (drop ((slot + i) * size) bytes) ≡ take size (drop (i * size) rest)
    bytes_at i = rw (add-mul slot i size, ← drop-drop)

    slot_whole : (i : ℕ) → i * size % 4 ≡ 0
    slot_whole i = mod-eq-zero_of_dvd 4 (dvd-mul_left_of_dvd 4 (dvd_of_mod-eq-zero 4 lie.whole) i)

    -- the first damage lies in slot `slot + k`, or there is none
    module _ {d : ℕ} (first-at : d ≡ first_damage canary rest) where
      abbrev k : ℕ
      k = d / size

      split : (k * size ≤ d) × (d < k * size + size) × (d ≤ length rest)
      split = omega (arith, div-add-mod' d size, mod-lt d lie.some, damage_le canary rest, first-at)

      not_beyond : slot + k ≤ slots
      not_beyond = elim (dec_lt slots (slot + k)) [
        | yes l ↦
            let more : suc slots * size ≤ (slot + k) * size = mul-le-mul_right size l in
            absurd (omega (arith, split, rest_length, add-mul slot k size, suc-mul slots size, lie.some))
        | no l ↦ omega arith
      ]

      passed : (i : ℕ) → i < k → test (slot + i) ≡ false
      passed i l =
          let before : suc i * size ≤ k * size = mul-le-mul_right size l in
          let ends : i * size + size ≤ d = omega (arith, split, suc-mul i size) in
          let intact : has_damage canary (take size (drop ((slot + i) * size) bytes)) ≡ false = rw (bytes_at i)
          (part_damage canary rest (i * size) size (slot_whole i) (omega (arith, split)) (omega arith)
          ∙ le-ltb (first_damage canary rest) (i * size + size) (omega arith)) in
          rw intact (and-false (not (is_set bitmap slots (slot + i))))

      skipped : first test slot (slots - slot) ≡ first test (slot + k) (slots - (slot + k))
      skipped = first_skip test (omega arith) not_beyond (λ x l u.
          let place : slot + (x - slot) ≡ x = omega arith in
          rw place at (passed (x - slot) (omega arith)))

      -- it lies in the slot itself
      hit : k ≡ 0 → test slot ≡ not (is_set bitmap slots slot)
      hit e =
          let none : k * size ≡ 0 = rw e (zero-mul size) in
          let all : suc slot * size ≤ slots * size = mul-le-mul_right size h in
          let damaged : has_damage canary (take size rest) ≡ true =
          part_damage canary rest 0 size refl (omega (arith, rest_length, suc-mul slot size)) (omega arith)
          ∙ lt-ltb (first_damage canary rest) (0 + size) (omega (arith, split, none)) in
          rw damaged (and-true (not (is_set bitmap slots slot)))

-- what is known of a slot that is set, and of how many slots from a clear one on hold the canary
module _ (canary : ℕ) (bytes bitmap : List ℕ) (slots size : ℕ) (lie : SideBySide bytes slots size) (slot : ℕ) (h : slot < slots) where
  abbrev rest_of : ℕ → ℕ
  rest_of i = first (is_hit_in canary bytes bitmap slots size) i (slots - i)

  pub set_passed : is_set bitmap slots slot ≡ true → rest_of slot ≡ rest_of (slot + 1)
  set_passed e = first_past (is_hit_in canary bytes bitmap slots size) h (rw e)

  module _ {d k : ℕ} (looked : d ≡ first_damage canary (take (length bytes - slot * size) (drop (slot * size) bytes))) (divided : k ≡ d / size) where
    found : d ≡ first_damage canary (drop (slot * size) bytes)
    found = looked ∙ ap (first_damage canary) (take_all (length bytes - slot * size) (drop (slot * size) bytes) (le_of_eq (length-drop (slot * size) bytes)))

    pub intact_passed : rest_of slot ≡ rest_of (slot + k)
    intact_passed = rw divided (skipped canary bytes bitmap slots size lie slot h found)

    pub none_intact : is_set bitmap slots slot ≡ false → k ≡ 0 → rest_of slot ≡ slot
    none_intact e z = first_found (is_hit_in canary bytes bitmap slots size) h (hit canary bytes bitmap slots size lie slot h found (sym divided ∙ z) ∙ rw e)
