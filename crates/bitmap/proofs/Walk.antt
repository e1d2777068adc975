-- The walk to the next clear slot.
use mathlib.Core.Path.{◌≡◌, refl, ◌∙◌}
use mathlib.Core.Bool.{Bool}
use mathlib.Core.List.{List}
use Prim.Native.Nat.{ℕ, min, ◌+◌, ◌-◌, ◌^◌, ◌<◌, ◌≤◌, zero-le}
use native.Mathlib.Nat.{sub-zero}
use native.Mathlib.Numerals.{add-one}
use native.Mathlib.Decide.{dec_le, dec_lt}
use native.Mathlib.Omega.{arith}
use borrow.Author.Tests.{lt-ltb, le-ltb, not-true, not-false}
use Rattle.std.proofs.Common.{Option, Some, None}
use Rattle.std.specs.Option.{SomeIff, unwrap_or}
use Rattle.search.specs.First.{first}
use Rattle.search.proofs.First.{first_range, first_passes, first_before}
use Rattle.bitmap.specs.Bitmap.{bit, count_set, is_clear, next_clear}
use Rattle.bitmap.proofs.Slot.{Clear, is_clear_lem, is_set_lem}
use Rattle.bitmap.proofs.Counted.{count_full}

module _ (b : List ℕ) (n last above : ℕ) (found : above ≡ first (is_clear b n) (last + 1) (n - (last + 1))) where
  -- a clear slot above the last is the answer
  pub next_above : above < n → above ≡ next_clear b n last
  unfolding next_clear
  next_above h = rw (← rw add-one at found, lt-ltb above n)

  -- else the walk goes on from slot 0
  pub next_around : n ≤ above → first (is_clear b n) 0 (n - 0) ≡ next_clear b n last
  unfolding next_clear
  next_around h = rw (← rw add-one at found, le-ltb above n, sub-zero)

-- the same of the code, whose next number is no more than a machine's largest
module _ (b : List ℕ) (n last : ℕ) {from : ℕ} (next : from ≡ min (last + 1) 18446744073709551615) (fits : n < 2 ^ 64) where
  abbrev test : ℕ → Bool
  test = is_clear b n

  pub walk_above : {slot : ℕ} → (first test from (n - from) < n) × (slot ≡ first test from (n - from)) → slot ≡ next_clear b n last
  walk_above {slot} (inside, is) =
      let same : from ≡ last + 1 = omega (arith, first_range test from (n - from)) in
      next_above b n last slot (rw same at is) (omega arith)

  pub walk_around : (r : Option ℕ) → (first test from (n - from) < n → ⊥)
      → SomeIff r (first test 0 (n - 0) < n) (first test 0 (n - 0)) → unwrap_or r n ≡ next_clear b n last
  walk_around r none again = found r again ∙ next_around b n last (first test (last + 1) (n - (last + 1))) refl (elim (dec_le (last + 1) 18446744073709551615) [
    | yes l ↦
        let same : from ≡ last + 1 = omega arith in
        let past = rw same at none in
        omega (arith, past)
    | no l ↦ omega (arith, first_range test (last + 1) (n - (last + 1)))
  ])
    where
      found : (r : Option ℕ) → SomeIff r (first test 0 (n - 0) < n) (first test 0 (n - 0)) → unwrap_or r n ≡ first test 0 (n - 0)
      found None past = omega (arith, past, first_range test 0 (n - 0))
      found (Some i) (inside, is) = is

module _ (b : List ℕ) (n last : ℕ) where
  abbrev above : ℕ
  above = first (is_clear b n) (last + 1) (n - (last + 1))

  found : (i : ℕ) → first (is_clear b n) i (n - i) < n → Clear b n (first (is_clear b n) i (n - i))
  found i h = is_clear_lem b n _ h (not-true _ (first_passes (is_clear b n) i (n - i) (omega arith)))

  -- a slot that the walk gives is clear
  pub next_clear_lem : next_clear b n last < n → Clear b n (next_clear b n last)
  next_clear_lem h = elim (dec_lt above n) [
    | yes l ↦ rw (← next_above b n last above refl l) (found (last + 1) l)
    | no l ↦
        let around = next_around b n last above refl (omega arith) in
        rw (← around) (found 0 (rw (← around) at h))
  ]

  -- and where not all are set it gives one
  pub next_room : count_set b n < n → next_clear b n last < n
  next_room room = elim (dec_lt above n) [
    | yes l ↦ rw (← next_above b n last above refl l) l
    | no l ↦ rw (← next_around b n last above refl (omega arith)) (elim (dec_lt (first (is_clear b n) 0 (n - 0)) n) [
      | yes k ↦ k
      | no k ↦
          let full : (i : ℕ) → i < n → bit b i ≡ 1 =
          λ i j. (is_set_lem b n i (not-false _ (first_before (is_clear b n) 0 (n - 0) i zero-le (omega arith)))).1
          in
          absurd (omega (arith, count_full b n full))
    ])
  ]
