-- The first number up to an end that passes a test, if one does.
use Rattle.std.specs.Prelude.{Option, Some, None}
use Prim.Native.Nat.{ℕ, ◌-◌, ◌<◌, ◌≤◌}
use mathlib.Core.Path.{◌≡◌, refl, sym}
use mathlib.Core.Bool.{Bool, true, false}
use native.Mathlib.Omega.{arith}
use borrow.Author.Tests.{lt-ltb, le-ltb, ltb-true, ltb-false}
use lib.Dec.{ltb}
use Rattle.search.specs.First.{first}
use Rattle.search.proofs.First.{first_range}
use Rattle.inspect.specs.Class.{first_within}

some_same : {i j : ℕ} → ◌≡◌ {A = Option ℕ} (Some i) (Some j) → i ≡ j
some_same e = cc

some_none : {i : ℕ} → ◌≡◌ {A = Option ℕ} (Some i) None → ⊥
some_none e = let z : ◌≡◌ {A = ℕ} 0 1 = cc in omega arith

module _ (test : ℕ → Bool) (from to : ℕ) where
  pub is_found : {i : ℕ} → i ≡ first test from (to - from) → i < to → Some i ≡ first_within test from to
  is_found {i} e l = rw (← e, lt-ltb i to l)

  pub is_nowhere : {i : ℕ} → i ≡ first test from (to - from) → to ≤ i → None ≡ first_within test from to
  is_nowhere {i} e l = rw (← e, le-ltb i to l)

  pub found_at : {i : ℕ} → Some i ≡ first_within test from to → (i ≡ first test from (to - from)) × (i < to)
  found_at {i} e = go (ltb (first test from (to - from)) to) refl
    where
      go : (t : Bool) → ltb (first test from (to - from)) to ≡ t → (i ≡ first test from (to - from)) × (i < to)
      go true l =
          let same : i ≡ first test from (to - from) = some_same (rw l at e) in
          (same, rw same (ltb-true _ _ l))
      go false l = absurd (some_none (rw l at e))

  pub found_within : {i : ℕ} → Some i ≡ first_within test from to → (from ≤ i) × (i < to)
  found_within e = let (is, within) = found_at e in (rw is (first_range test from (to - from)).0, within)

  pub nowhere_before : None ≡ first_within test from to → to ≤ first test from (to - from)
  nowhere_before e = go (ltb (first test from (to - from)) to) refl
    where
      go : (t : Bool) → ltb (first test from (to - from)) to ≡ t → to ≤ first test from (to - from)
      go true l = absurd (some_none (sym (rw l at e)))
      go false l = ltb-false _ _ l
