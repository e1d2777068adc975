-- The numbers that pass a test, listed one after another as far as the list goes.
use Rattle.std.specs.Prelude.{Some, None}
use Prim.Native.Nat.{ℕ, suc, min, ◌+◌, ◌-◌, ◌<◌, ◌≤◌}
use mathlib.Core.Path.{◌≡◌, refl, sym, ap, ◌∙◌}
use mathlib.Core.Bool.{Bool}
use mathlib.Core.List.{List, [], ◌∷◌}
use native.Mathlib.Nat.{zero-add, add-zero, sub-eq-zero_of_le}
use native.Mathlib.Decide.{dec_lt}
use native.Mathlib.Omega.{arith}
use lib.ListN.{length, take, drop, get_or, set, length-drop, length-take}
use lib.Seq.{take-length, paste, paste-suc, length-paste, drop-drop, get_or-drop}
use Rattle.numbers.proofs.Cut.{take_min}
use Rattle.search.specs.Those.{those}
use Rattle.search.proofs.Those.{those_next, those_none, those_few}
use Rattle.writing.specs.Overwrite.{overwrite}
use Rattle.inspect.specs.Class.{first_within}
use Rattle.inspect.proofs.Within.{found_at, found_within, nowhere_before}

module _ (test : ℕ → Bool) (n : ℕ) (list₀ : List ℕ) where
  abbrev pub all : List ℕ
  all = those test 0 n

  -- so many are found, and written where there is room; the others are ahead
  pub record Listing (list : List ℕ) (found at : ℕ) : Type 0 where
    pub few : found ≤ length all
    pub ahead : drop found all ≡ those test at (n - at)
    pub wrote : list ≡ paste list₀ 0 all (min found (length list₀))

  module _ {list : List ℕ} {found at : ℕ} (so : Listing list found at) where
    pub listing_length : length list ≡ length list₀
    listing_length = rw so.wrote (length-paste list₀ 0 all (min found (length list₀)) (omega arith) (omega (arith, so.few)))

    -- no more are ahead
    listing_all : those test at (n - at) ≡ [] → (found ≡ length all) × (list ≡ overwrite list₀ 0 (take (length list₀) all))
    listing_all none =
        let left : length all - found ≡ 0 = sym (length-drop found all) ∙ ap length (so.ahead ∙ none) in
        let is : found ≡ length all = omega (arith, so.few) in
        let size : length (take (length list₀) all) ≡ min found (length list₀) = length-take (length list₀) all ∙ omega (arith, is) in
        let front : take (min found (length list₀)) all ≡ take (length list₀) all =
        take_min (length list₀) (length all) all {n = min found (length list₀)} (omega (arith, is)) ∙ ap (take (length list₀)) (take-length all) in
        (is, so.wrote ∙ rw (front, size, zero-add))

    pub listing_end : n ≤ at → (found ≡ length all) × (list ≡ overwrite list₀ 0 (take (length list₀) all))
    unfolding those
    listing_end h = listing_all (rw (sub-eq-zero_of_le h) refl)

    module _ {hit : ℕ} (next : Some hit ≡ first_within test at n) where
      rest : drop found all ≡ hit ∷ those test (hit + 1) (n - (hit + 1))
      rest =
          let (here, within) = found_at test at n next in
          so.ahead ∙ those_next test (omega (arith, found_within test at n next)) here within

      pub listing_room : found < n
      listing_room =
          let some : length all - found ≡ suc (length (those test (hit + 1) (n - (hit + 1)))) = sym (length-drop found all) ∙ ap length rest in
          omega (arith, those_few test 0 n, some)

      one_more : (found < length all) × (get_or all found 0 ≡ hit) × (drop (found + 1) all ≡ those test (hit + 1) (n - (hit + 1)))
      one_more =
          let some : length all - found ≡ suc (length (those test (hit + 1) (n - (hit + 1)))) = sym (length-drop found all) ∙ ap length rest in (
            omega (arith, some),
            sym (rw add-zero at (get_or-drop found all 0 0)) ∙ ap (λ (xs : List ℕ). get_or xs 0 0) rest,
            sym (drop-drop 1 found all) ∙ ap (drop 1) rest,
          )

      -- one more, with room for it and without
      pub listing_more : found < length list₀ → Listing (set list found hit) (found + 1) (hit + 1)
      listing_more room =
          let (more, is, others) = one_more in
          let before : min found (length list₀) ≡ found = omega arith in
          let after : min (found + 1) (length list₀) ≡ suc found = omega arith in
          let written : set (paste list₀ 0 all found) found hit ≡ paste list₀ 0 all (suc found) =
          ap (λ (i : ℕ). set (paste list₀ 0 all found) i hit) (sym (zero-add found)) ∙ rw is at (paste-suc list₀ 0 all found 0 (omega arith) more) in
          record { few = omega arith; ahead = others; wrote = rw (so.wrote, before, after) written }

      pub listing_past : length list₀ ≤ found → Listing list (found + 1) (hit + 1)
      listing_past full =
          let (more, is, others) = one_more in
          let same : min (found + 1) (length list₀) ≡ min found (length list₀) = omega arith in
          record { few = omega arith; ahead = others; wrote = rw same so.wrote }

    -- no more are found
    pub listing_over : None ≡ first_within test at n → (found ≡ length all) × (list ≡ overwrite list₀ 0 (take (length list₀) all))
    listing_over e = elim (dec_lt at n) [
      | yes h ↦ listing_all (those_none test (omega arith) refl (nowhere_before test at n e))
      | no h ↦ listing_end (omega arith)
    ]
