-- No inspection lists more slots than there are, so that a list of as many numbers is never too short.
use Rattle.std.specs.Prelude.{Ok}
use Prim.Native.Nat.{ℕ, zero, suc, ◌+◌, ◌-◌, ◌*◌, ◌/◌, ◌≤◌, ◌<◌}
use mathlib.Core.Path.{◌≡◌, refl, ap, ap₂, ◌∙◌}
use mathlib.Core.Bool.{Bool, true, false, and-false}
use mathlib.Core.List.{List}
use native.Mathlib.Nat.{zero-add, add-zero, suc-add, suc-mul, mul-zero, zero-mul, le_refl, le_trans, div-mul-le_self}
use native.Mathlib.Decide.{dec_lt}
use native.Mathlib.Omega.{arith}
use borrow.Author.Tests.{ne_eqb, le-ltb}
use lib.Arith.{digits_div}
use lib.ListN.{length}
use Rattle.search.specs.Those.{those}
use Rattle.search.proofs.Those.{those_few}
use Rattle.geometry.specs.declared.Layout.{Layout}
use Rattle.geometry.specs.Layout.{classes, slot_size, slots, slot_start, locate}
use Rattle.geometry.proofs.Slots.{slot_located, located_start, slots_held}
use Rattle.judge.specs.Judge.{admit}
use Rattle.rules.specs.Object.{is_start}
use Rattle.rules.specs.Inspect.{is_hit, hits, listed, inspection}
use Rattle.judge.proofs.Judging.{admitted_laid}
use Rattle.rules.proofs.Inspecting.{inspection_laid}
use Rattle.capi.specs.Slots.{slots_before, all_slots, count_slots}

-- how many of the k numbers from i on pass a test
module _ (test : ℕ → Bool) where
  abbrev passing : ℕ → ℕ → ℕ
  passing i k = length (those test i k)

  -- those of a numbers and of the b after them
  passing_add : (i a b : ℕ) → passing i (a + b) ≡ passing i a + passing (i + a) b
  unfolding those
  passing_add i zero b =
      let none : passing i 0 ≡ 0 = refl in
      rw (zero-add b, add-zero i, none, zero-add (passing i b))
  passing_add i (suc a) b = go (test i) refl (passing_add (suc i) a b)
    where
      go : (t : Bool) → test i ≡ t → passing (suc i) (a + b) ≡ passing (suc i) a + passing (suc i + a) b
          → passing i (suc a + b) ≡ passing i (suc a) + passing (i + suc a) b
      go true e rest =
          let after : i + suc a ≡ suc i + a = omega arith in
          rw (suc-add a b, e, those, after) (omega (arith, rest))
      go false e rest =
          let after : i + suc a ≡ suc i + a = omega arith in
          rw (suc-add a b, e, those, after) rest

  -- none passes
  passing_none : (i k : ℕ) → ((x : ℕ) → i ≤ x → x < i + k → test x ≡ false) → passing i k ≡ 0
  unfolding those
  passing_none i zero h = refl
  passing_none i (suc k) h =
      let rest : passing (suc i) k ≡ 0 = passing_none (suc i) k (λ x l u. h x (omega arith) (omega arith)) in
      rw (h i (le_refl i) (omega arith), those) rest

  -- of slots side by side none passes but where one starts
  passing_slots : (b s n : ℕ) → ((j x : ℕ) → j < n → b + j * s < x → x < b + j * s + s → test x ≡ false)
      → passing b (n * s) ≤ n
  passing_slots b s zero h = rw (zero-mul s) (those_few test b 0)
  passing_slots b zero (suc n) h = rw (mul-zero (suc n)) (omega (arith, those_few test b 0))
  passing_slots b (suc s) (suc n) h =
      let t : ℕ = suc s in
      let before : passing b (n * t) ≤ n = passing_slots b t n (λ j x l. h j x (omega arith)) in
      let at : ℕ = b + n * t in
      let rest : passing (at + 1) s ≡ 0 = passing_none (at + 1) s (λ x l u. h n x (omega arith) (omega arith) (omega arith)) in
      let one : passing at 1 ≤ 1 = those_few test at 1 in
      let slot : passing at (1 + s) ≡ passing at 1 + passing (at + 1) s = passing_add at 1 s in
      let all : passing b (n * t + t) ≡ passing b (n * t) + passing at t = passing_add b (n * t) t in
      let same : passing at t ≡ passing at (1 + s) = ap (passing at) (omega arith) in
      rw (suc-mul n t, all) (omega (arith, before, rest, one, slot, same))

-- ---- of a heap

module _ (G : Layout) (m h : List ℕ) where
  abbrev test : ℕ → Bool
  test = is_hit G m h

  no_start : (x : ℕ) → is_start G (locate G x) ≡ false → test x ≡ false
  no_start x e = rw e

  -- no slot starts within another
  within_slot : (c j x : ℕ) → j < slots G c → c * G.region + j * slot_size G c < x
      → x < c * G.region + j * slot_size G c + slot_size G c → test x ≡ false
  within_slot c j x some from to =
      let (class, slot) = slot_located G c j x some (omega arith) to in
      let further : (locate G x).into ≡ 0 → ⊥ = λ e.
      let at : slot_start G (locate G x).class (locate G x).slot ≡ slot_start G c j = ap₂ (slot_start G) class slot in
      omega (arith, located_start G x e, at) in
      no_start x (rw (ne_eqb (locate G x).into 0 further))

  -- nor behind the last of its region
  behind_slots : (c x : ℕ) → c * G.region + slots G c * slot_size G c ≤ x → x < c * G.region + G.region → test x ≡ false
  behind_slots c x from to =
      let into : ℕ = x - c * G.region in
      let split : x ≡ c * G.region + into = omega arith in
      let class : x / G.region ≡ c = ap (λ (y : ℕ). y / G.region) split ∙ digits_div c (omega arith) in
      let past : slots G (locate G x).class ≤ (locate G x).slot = elim (dec_lt (locate G x).slot (slots G (locate G x).class)) [
        | yes some ↦ absurd (omega (arith, (slots_held G c x class some).1))
        | no none ↦ omega arith
      ] in
      no_start x (rw (le-ltb (locate G x).slot (slots G (locate G x).class) past, and-false))

  -- so a class has at most as many hits as slots
  class_few : (c : ℕ) → passing test (c * G.region) G.region ≤ slots G c
  class_few c =
      let used : ℕ = slots G c * slot_size G c in
      let fits : used ≤ G.region = div-mul-le_self G.region (slot_size G c) in
      let rest : ℕ = G.region - used in
      let few : passing test (c * G.region) used ≤ slots G c =
      passing_slots test (c * G.region) (slot_size G c) (slots G c) (within_slot c) in
      let none : passing test (c * G.region + used) rest ≡ 0 =
      passing_none test (c * G.region + used) rest (λ x l u. behind_slots c x l (omega arith)) in
      let both : passing test (c * G.region) (used + rest) ≡ passing test (c * G.region) used + passing test (c * G.region + used) rest =
      passing_add test (c * G.region) used rest in
      let whole : passing test (c * G.region) G.region ≡ passing test (c * G.region) (used + rest) =
      ap (passing test (c * G.region)) (omega arith) in
      omega (arith, few, none, both, whole)

  before_few : (c : ℕ) → passing test 0 (c * G.region) ≤ slots_before G c
  unfolding slots_before
  before_few zero = rw (zero-mul G.region) (those_few test 0 0)
  before_few (suc c) =
      let before : passing test 0 (c * G.region) ≤ slots_before G c = before_few c in
      let here : passing test (c * G.region) G.region ≤ slots G c = class_few c in
      let both : passing test 0 (c * G.region + G.region) ≡ passing test 0 (c * G.region) + passing test (0 + c * G.region) G.region =
      passing_add test 0 (c * G.region) G.region in
      rw (suc-mul c G.region, both, zero-add (c * G.region)) (omega (arith, before, here))

  pub hits_few : length (hits G m h) ≤ all_slots G
  hits_few = before_few classes

-- ---- of an inspection

-- with a list of as many numbers as there are slots, all hits are listed
pub never_short : (h m list : List ℕ) {G : Layout} → admit (length h) m ≡ Ok G → count_slots (length h) m ≤ length list
    → inspection h m list ≡ listed list (hits G m h)
never_short h m list {G} e long =
    let enough : all_slots G ≤ length list = rw (admitted_laid (length h) m e) at long in
    let fits = le-ltb (length list) (length (hits G m h)) (le_trans (hits_few G m h) enough) in
    inspection_laid h m list e ∙ rw fits
