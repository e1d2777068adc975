-- Hits of a region: they are the hits among its slots, side by side.
use Rattle.std.specs.Prelude.{Ok, Err, Some, None}
use Prim.Native.Nat.{ℕ, suc, max, ◌+◌, ◌-◌, ◌*◌, ◌/◌, ◌%◌, ◌<◌, ◌≤◌}
use mathlib.Core.Path.{◌≡◌, refl, sym, ap, ◌∙◌}
use mathlib.Core.Bool.{Bool, true, false, not, ◌&&◌, and-eq-true_iff}
use mathlib.Core.List.{List}
use native.Mathlib.Nat.{add-sub_cancel_left, lt_of_mul-lt-mul_right, suc-mul, mul-le-mul_right, div-lt_iff_lt-mul, div-add-mod', mod-lt, le_refl}
use native.Mathlib.Decide.{dec_lt}
use native.Mathlib.Omega.{arith}
use borrow.Author.Tests.{lt-ltb, eqb-true, ltb-true}
use lib.Arith.{digits_div}
use lib.Dec.{ltb, eqb}
use lib.ListN.{length, take, drop, length-drop}
use lib.Seq.{length-take-le, drop-drop, take-take}
use Rattle.search.specs.First.{first}
use Rattle.search.proofs.First.{first_found, first_skip, first_none, first_range, first_passes, first_before, first_early, first_later}
use Rattle.std.proofs.lemmas.List.{drop-take}
use Rattle.geometry.specs.declared.Layout.{Layout}
use Rattle.geometry.specs.declared.Location.{Location}
use Rattle.geometry.specs.declared.Part.{Part}
use Rattle.geometry.specs.Layout.{classes, heap_length, slot_size, longest_slot, slots, slot_start, locate, part_of, region_of}
use Rattle.geometry.proofs.Geometry.{slot_size_some, slot_size_whole, slot_size_le}
use Rattle.geometry.proofs.Slots.{slots_end_le, slot_within, start_located, located_start}
use Rattle.metadata.specs.Metadata.{canary_of, bitmap_of}
use Rattle.metadata.proofs.Stored.{part_bitmap}
use Rattle.canary.specs.Canary.{has_damage}
use Rattle.rules.specs.Object.{is_start, is_live}
use Rattle.rules.specs.Inspect.{is_hit}
use Rattle.answer.specs.declared.Refusal.TheVariants.{HeapLength}
use Rattle.judge.specs.Judge.{admit, Judged}
use Rattle.judge.proofs.Judging.{admit_fits, admitted_laid, no_heap}
use Rattle.inspect.specs.Class.{is_hit_in, first_within, SideBySide}
use Rattle.inspect.proofs.Within.{is_found, is_nowhere, found_at, nowhere_before}

-- a layout that was admitted has regions
pub admitted_some : (n : ℕ) (m : List ℕ) {G : Layout} → admit n m ≡ Ok G → 0 < G.region
admitted_some n m {G} e = elim (dec_lt 0 G.region) [
  | yes h ↦ h
  | no h ↦
      let none : region_of n ≡ 0 = omega (arith, ap (λ (L : Layout). L.region) (admit_fits n m e).0) in
      let unfit : ◌≡◌ {A = Judged} (Err HeapLength) (Ok G) = sym (no_heap n (length m) none) ∙ admitted_laid n m e in
      let wrong : ◌≡◌ {A = ℕ} 0 1 = cc in
      absurd (omega arith)
]

-- the bytes of a class's slots
abbrev pub slots_of : Layout → ℕ → List ℕ → List ℕ
slots_of G c h = take (slots G c * slot_size G c) (drop (c * G.region) h)

-- where an offset's region and its slots lie in a heap of n bytes
pub record Around (at n class region slots size : ℕ) : Type 0 where
  pub begins : class * region ≤ at
  pub ends : at < class * region + region
  pub whole : class * region + region ≤ n
  pub all : class * region + slots * size ≤ n
  pub some : 0 < size
  pub short : size ≤ longest_slot

pub around : (G : Layout) {at n class region count size : ℕ} → at < n → n ≡ heap_length G → region ≡ G.region → class ≡ at / region
    → size ≡ slot_size G class → count ≡ slots G class → Around at n class region count size
around G {at} {n} inside fits r c s k = rw (s, k, c, r) (record {
  begins = omega (arith, split);
  ends = omega (arith, split, mod-lt at {m = G.region} (omega arith));
  whole = omega (arith, suc-mul (at / G.region) G.region, mul-le-mul_right G.region class);
  all = omega (arith, slots_end_le G class);
  some = slot_size_some G class;
  short = slot_size_le G (at / G.region);
})
  where
    split : at / G.region * G.region + at % G.region ≡ at
    split = div-add-mod' at G.region

    class : at / G.region < classes
    class = (div-lt_iff_lt-mul {k = G.region} (omega arith)).1 (omega arith)

-- the part of a class's region that an offset leaves, where the offset does not lie behind it
module _ (G : Layout) (from class : ℕ) {n : ℕ} (some : 0 < G.region) (fits : n ≡ heap_length G) (reached : from / G.region ≤ class) (h : class < classes) where
  turn_ends : (from < suc class * G.region) × (class * G.region < suc class * G.region) × (suc class * G.region ≤ n)
  turn_ends =
      let low : from / G.region * G.region ≤ class * G.region = mul-le-mul_right G.region reached in
      let high : suc class * G.region ≤ classes * G.region = mul-le-mul_right G.region h in
      omega (arith, low, high, div-add-mod' from G.region, mod-lt from some, suc-mul class G.region)

  pub turn_inside : max from (class * G.region) < n
  turn_inside = omega (arith, turn_ends)

  abbrev turn_at : ℕ
  turn_at = max from (class * G.region)

  turn_class : suc (turn_at / G.region) * G.region ≡ suc class * G.region
  turn_class =
      let split : turn_at ≡ class * G.region + (turn_at - class * G.region) = omega arith in
      let is : turn_at / G.region ≡ class =
      ap (λ (y : ℕ). y / G.region) split ∙ digits_div class (omega (arith, turn_ends, suc-mul class G.region)) in
      rw is

  -- then the next one is left whole
  turn_next : (turn_at ≤ suc class * G.region) × (suc class * G.region ≤ n) × (max from (suc class * G.region) ≡ suc class * G.region)
  turn_next = omega (arith, turn_ends)

  -- what the look through the part comes to
  module _ (test : ℕ → Bool) (passed : first test from (n - from) ≡ first test turn_at (n - turn_at)) where
    pub turn_found : {hit : ℕ} → Some hit ≡ first_within test turn_at (suc (turn_at / G.region) * G.region) → Some hit ≡ first_within test from n
    turn_found e =
        let (before, inside, next) = turn_next in
        let (here, within) = found_at test turn_at (suc class * G.region) (rw turn_class at e) in
        is_found test from n (here ∙ sym (passed ∙ first_early test before inside (rw here at within))) (omega (arith, within, inside))

    pub turn_over : None ≡ first_within test turn_at (suc (turn_at / G.region) * G.region)
        → let at = max from (suc class * G.region) in first test from (n - from) ≡ first test at (n - at)
    turn_over e =
        let (before, inside, next) = turn_next in
        let over = nowhere_before test turn_at (suc class * G.region) (rw turn_class at e) in
        passed ∙ rw next (first_later test before inside over)

module _ (G : Layout) (m h : List ℕ) (c : ℕ) where
  abbrev pub in_class : ℕ → Bool
  in_class = is_hit_in (canary_of m) (slots_of G c h) (bitmap_of G c m) (slots G c) (slot_size G c)

  -- slot i's bytes
  slot_bytes : (i : ℕ) → i < slots G c
      → take (slot_size G c) (drop (slot_start G c i) h) ≡ take (slot_size G c) (drop (i * slot_size G c) (slots_of G c h))
  slot_bytes i l =
      let s : ℕ = slot_size G c in
      let within : suc i * s ≤ slots G c * s = mul-le-mul_right s l in
      let room : i * s + (slots G c * s - i * s) ≡ slots G c * s = omega (arith, suc-mul i s) in
      let part : drop (i * s) (slots_of G c h) ≡ take (slots G c * s - i * s) (drop (slot_start G c i) h) =
      ap (λ (n : ℕ). drop (i * s) (take n (drop (c * G.region) h))) (sym room)
      ∙ drop-take (i * s) (slots G c * s - i * s) (drop (c * G.region) h)
      ∙ ap (take (slots G c * s - i * s)) (drop-drop (i * s) (c * G.region) h) in
      sym (ap (take s) part ∙ take-take s (slots G c * s - i * s) (drop (slot_start G c i) h) (omega (arith, suc-mul i s)))

  -- where one starts, a hit of the heap is one of the class
  hit_slot : (i : ℕ) → i < slots G c → is_hit G m h (slot_start G c i) ≡ in_class i
  hit_slot i l =
      let (class, slot, start) = start_located G c i l in
      let into : slot_start G c i % G.region % slot_size G c ≡ 0 = rw class at start in
      rw (class, rw class at slot, into, lt-ltb i (slots G c) l, slot_bytes i l)

  -- and only there is one
  hit_only : (x : ℕ) → c * G.region ≤ x → x < suc c * G.region → is_hit G m h x ≡ true
      → let i = x % G.region / slot_size G c in (x ≡ slot_start G c i) × (i < slots G c)
  hit_only x l u e =
      let split : x ≡ c * G.region + (x - c * G.region) = omega arith in
      let class : x / G.region ≡ c = ap (λ (y : ℕ). y / G.region) split ∙ digits_div c (omega (arith, suc-mul c G.region)) in
      let l : Location = locate G x in
      let damaged : Bool = has_damage (canary_of m) (take (slot_size G l.class) (drop x h)) in
      let clear = ((and-eq-true_iff (is_start G l && not (is_live G m l)) damaged).0 e).0 in
      let start = ((and-eq-true_iff (is_start G l) (not (is_live G m l))).0 clear).0 in
      let begins = (and-eq-true_iff (eqb l.into 0) (ltb l.slot (slots G l.class))).0 start in
      let at : x ≡ slot_start G l.class l.slot = located_start G x (eqb-true l.into 0 begins.0) in
      let slot : l.slot < slots G l.class = ltb-true l.slot (slots G l.class) begins.1 in
      (at ∙ rw class, rw class at slot)

  -- ---- the search from an offset of the region, by the first slot that does not start before it

  module _ (at : ℕ) (from_start : c * G.region ≤ at) (to_end : at < suc c * G.region) (some : 0 < slot_size G c)
      {from : ℕ} (rounded : from ≡ (at - c * G.region + slot_size G c - 1) / slot_size G c) where
    abbrev size : ℕ
    size = slot_size G c

    abbrev end : ℕ
    end = suc c * G.region

    -- it starts there or after, and those before it start before
    up : at ≤ slot_start G c from
    up = let d : ℕ = at - c * G.region + size - 1 in omega (arith, rounded, div-add-mod' d size, mod-lt d some, ap (λ (k : ℕ). k * size) rounded)

    least : (i : ℕ) → at ≤ slot_start G c i → from ≤ i
    least i l =
        let d : ℕ = at - c * G.region + size - 1 in
        let less : d / size < suc i = (div-lt_iff_lt-mul {k = size} some).1 (omega (arith, suc-mul i size)) in
        omega (arith, rounded)

    -- an offset is no hit, if none is that a slot starting there would be
    none : (x : ℕ) → at ≤ x → x < end → ((i : ℕ) → from ≤ i → i < slots G c → x ≡ slot_start G c i → in_class i ≡ false) → is_hit G m h x ≡ false
    none x l u at_none = go (is_hit G m h x) refl
      where
        go : (t : Bool) → is_hit G m h x ≡ t → t ≡ false
        go false e = refl
        go true e =
            let i : ℕ = x % G.region / slot_size G c in
            let (start, slot) = hit_only x (omega arith) u e in
            let is : in_class i ≡ true = sym (hit_slot i slot) ∙ ap (is_hit G m h) (sym start) ∙ e in
            sym is ∙ at_none i (least i (omega arith)) slot start

    -- what it comes to where it finds a slot, and where it finds none
    module _ {slot : ℕ} (found : slot ≡ first in_class from (slots G c - from)) where
      not_before : (i : ℕ) → from ≤ i → i < slot → in_class i ≡ false
      not_before i l u = first_before in_class from (slots G c - from) i l (rw (← found) u)

      pub region_hit : slot < slots G c → slot_start G c slot ≡ first (is_hit G m h) at (end - at)
      region_hit l =
          let after : from ≤ slot = rw (← found) at (first_range in_class from (slots G c - from)).0 in
          let rising : from * size ≤ slot * size = mul-le-mul_right size after in
          let inside : slot_start G c slot < end = omega (arith, slot_within G c slot l, suc-mul c G.region, some) in
          let is : in_class slot ≡ true = rw (← found) at (first_passes in_class from (slots G c - from) (rw (← found) (omega arith))) in
          let skipped = first_skip (is_hit G m h) {i = at} {j = slot_start G c slot} {n = end} (omega (arith, up)) (omega arith)
          (λ x a b. none x a (omega arith) (λ i p q e. not_before i p (lt_of_mul-lt-mul_right size (omega arith)))) in
          sym (skipped ∙ first_found (is_hit G m h) inside (hit_slot slot l ∙ is))

      pub region_none : slots G c ≤ slot → end ≡ first (is_hit G m h) at (end - at)
      region_none l =
          let skipped = first_skip (is_hit G m h) {i = at} {j = end} {n = end} (omega arith) (le_refl end)
          (λ x a b. none x a b (λ i p q e. not_before i p (omega arith))) in
          sym (skipped ∙ first_none (is_hit G m h) (le_refl end))

-- ---- as the code has it

-- the bytes between a class's start and the end of its slots
abbrev pub lent_bytes : List ℕ → ℕ → ℕ → ℕ → ℕ → List ℕ
lent_bytes h class region count size = take (class * region + count * size - class * region) (drop (class * region) h)

module _ (G : Layout) (m h : List ℕ) {at class region size : ℕ} {p : Part} (inside : at < length h) (fits : length h ≡ heap_length G)
    (r : region ≡ G.region) (c : class ≡ at / region) (s : size ≡ slot_size G class) (of : p ≡ part_of G class) where
  k : p.slots ≡ slots G class
  k = ap (λ (q : Part). q.slots) of

  near : Around at (length h) class region p.slots size
  near = around G inside fits r c s k

  -- they are slots, side by side
  pub slots_lie : SideBySide (lent_bytes h class region p.slots size) p.slots size
  slots_lie =
      record {
        all = rw (add-sub_cancel_left (class * region) (p.slots * size))
            (length-take-le (p.slots * size) (drop (class * region) h) (rw length-drop (omega (arith, near.all))));
        some = near.some;
        whole = rw s (slot_size_whole G class);
      }

  -- each starts within the heap
  pub slot_inside : {slot : ℕ} → slot < p.slots → class * region + slot * size ≤ length h
  slot_inside {slot} l =
      let before : slot * size ≤ p.slots * size = mul-le-mul_right size (omega arith) in
      omega (arith, before, near.all)

  lent_slots : lent_bytes h class region p.slots size ≡ slots_of G class h
  lent_slots = rw (add-sub_cancel_left (class * region) (p.slots * size), r, s, k)

  cls : class ≡ at / G.region
  cls = rw r at c

  begins : class * G.region ≤ at
  begins = rw r at near.begins

  ends : at < suc class * G.region
  ends = omega (arith, suc-mul class G.region, rw r at near.ends)

  -- and within its region
  in_region : {slot : ℕ} → slot < p.slots → class * region + slot * size < suc (at / G.region) * G.region
  in_region {slot} l =
      let fits : slot * slot_size G class + slot_size G class ≤ G.region = slot_within G class slot (rw k at l) in
      rw (← cls, r, s) (omega (arith, fits, suc-mul class G.region, rw s at near.some))

  -- the search among them, where it finds one and where it finds none
  module _ {canary from : ℕ} (counted : canary ≡ canary_of m) (rounded : from ≡ (at - class * region + size - 1) / size) where
    abbrev among : ℕ → Bool
    among = is_hit_in canary (lent_bytes h class region p.slots size) (take (p.end - p.start) (drop p.start m)) p.slots size

    same : {slot : ℕ} → slot ≡ first among from (p.slots - from) → slot ≡ first (in_class G m h class) from (slots G class - from)
    same e = rw (lent_slots, counted, part_bitmap G class of m, k, s) at e

    rounds : from ≡ (at - class * G.region + slot_size G class - 1) / slot_size G class
    rounds = rw (r, s) at rounded

    pub found_hit : {slot : ℕ} → Some slot ≡ first_within among from p.slots
        → Some (class * region + slot * size) ≡ first_within (is_hit G m h) at (suc (at / G.region) * G.region)
    found_hit {slot} e =
        let (found, l) = found_at among from p.slots e in
        is_found (is_hit G m h) at (suc (at / G.region) * G.region)
        (rw (← cls, r, s) (region_hit G m h class at begins ends (rw s at near.some) rounds (same found) (rw k at l)))
        (in_region l)

    pub found_none : None ≡ first_within among from p.slots → None ≡ first_within (is_hit G m h) at (suc (at / G.region) * G.region)
    found_none e =
        let over = nowhere_before among from p.slots e in
        let end : ℕ = suc (at / G.region) * G.region in
        let none : end ≡ first (is_hit G m h) at (end - at) =
        rw (← cls) (region_none G m h class at begins ends (rw s at near.some) rounds (same refl) (omega (arith, over, k))) in
        is_nowhere (is_hit G m h) at end none (le_refl end)
