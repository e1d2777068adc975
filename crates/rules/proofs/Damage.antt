-- An inspection's hits are exactly the clear slots that hold a byte other than the canary's.
use Prim.Native.Nat.{ℕ, ◌+◌, ◌<◌, ◌≤◌}
use mathlib.Core.Path.{◌≡◌, sym, ap, subst, ◌∙◌}
use mathlib.Core.Bool.{true, false, not, ◌&&◌, and-false, and-eq-true_iff}
use mathlib.Core.List.{List}
use native.Mathlib.Omega.{arith}
use borrow.Author.Tests.{eqb-true, eqb-false, ltb-true, not-true, ne_eqb, lt-ltb}
use lib.Dec.{eqb, ltb}
use lib.ListN.{length, take, drop, get_or, length-take, length-drop}
use lib.Seq.{get_or-take, get_or-drop}
use Rattle.search.proofs.First.{first_passes, first_le}
use Rattle.search.proofs.Those.{those_passes, those_member, those_rising}
use Rattle.search.proofs.Rising.{rising_same}
use Rattle.geometry.specs.declared.Layout.{Layout}
use Rattle.geometry.specs.declared.Location.{Location}
use Rattle.geometry.specs.Layout.{heap_length, slot_size, slots, slot_start, locate}
use Rattle.geometry.proofs.Slots.{slot_inside, located_start, start_located}
use Rattle.bitmap.specs.Bitmap.{bit, is_set}
use Rattle.bitmap.proofs.Slot.{is_clear_lem}
use Rattle.metadata.specs.Metadata.{canary_of, bitmap_of}
use Rattle.canary.specs.Canary.{canary_byte, is_damaged, first_damage, has_damage}
use Rattle.rules.specs.Object.{is_live, is_start}
use Rattle.rules.specs.Inspect.{is_hit, hits}
use Rattle.rules.specs.Inspected.{Damaged, AllDamaged, slot_bytes}

module _ (G : Layout) (m : List ℕ) (c i : ℕ) (slot : i < slots G c) where
  -- a slot is clear if its bit is 0
  pub clear_bit : is_set (bitmap_of G c m) (slots G c) i ≡ false → bit (bitmap_of G c m) i ≡ 0
  clear_bit e = (is_clear_lem (bitmap_of G c m) (slots G c) i slot e).clear

  pub bit_clear : bit (bitmap_of G c m) i ≡ 0 → is_set (bitmap_of G c m) (slots G c) i ≡ false
  bit_clear e = rw e (and-false (ltb i (slots G c)))

module _ (G : Layout) (h : List ℕ) (c i : ℕ) where
  -- a byte of a slot
  pub slot_at : (k : ℕ) → k < slot_size G c → get_or (slot_bytes G h c i) k 0 ≡ get_or h (slot_start G c i + k) 0
  slot_at k inside = get_or-take (slot_size G c) (drop (slot_start G c i) h) k 0 inside ∙ get_or-drop (slot_start G c i) h k 0

  slot_length : length h ≡ heap_length G → i < slots G c → length (slot_bytes G h c i) ≡ slot_size G c
  slot_length fits slot = simp (length-take, length-drop) (omega (arith, slot_inside G c i slot))

module _ (G : Layout) (m h : List ℕ) where
  hit_damaged : (x : ℕ) → is_hit G m h x ≡ true → Damaged G m h x
  hit_damaged x e =
      record {
        class = l.class;
        slot = l.slot;
        byte = k;
        exists = exists;
        start = located_start G x (eqb-true l.into 0 begins.0);
        clear = clear_bit G m l.class l.slot exists (not-true (is_live G m l) whole.1);
        within = within;
        differs = λ same. eqb-false (get_or slot k 0) (canary_byte (canary_of m) k) other (get_or-take size (drop x h) k 0 within ∙ get_or-drop x h k 0 ∙ same);
      }
    where
      l : Location
      l = locate G x

      size : ℕ
      size = slot_size G l.class

      slot : List ℕ
      slot = take size (drop x h)

      k : ℕ
      k = first_damage (canary_of m) slot

      hit : (is_start G l && not (is_live G m l) ≡ true) × (has_damage (canary_of m) slot ≡ true)
      hit = (and-eq-true_iff (is_start G l && not (is_live G m l)) (has_damage (canary_of m) slot)).0 e

      whole : (is_start G l ≡ true) × (not (is_live G m l) ≡ true)
      whole = (and-eq-true_iff (is_start G l) (not (is_live G m l))).0 hit.0

      begins : (eqb l.into 0 ≡ true) × (ltb l.slot (slots G l.class) ≡ true)
      begins = (and-eq-true_iff (eqb l.into 0) (ltb l.slot (slots G l.class))).0 whole.0

      exists : l.slot < slots G l.class
      exists = ltb-true l.slot (slots G l.class) begins.1

      found : k < length slot
      found = ltb-true k (length slot) hit.1

      within : k < size
      within = omega (arith, found, length-take size (drop x h))

      other : eqb (get_or slot k 0) (canary_byte (canary_of m) k) ≡ false
      other = not-true _ (first_passes (is_damaged (canary_of m) slot) 0 (length slot) (omega (arith, found)))

  -- such a slot starts below the heap's end
  pub damaged_inside : (x : ℕ) → Damaged G m h x → x < heap_length G
  damaged_inside x d = omega (arith, d.start, slot_inside G d.class d.slot d.exists, d.within)

  module _ (fits : length h ≡ heap_length G) where
    damaged_hit : (x : ℕ) → Damaged G m h x → is_hit G m h x ≡ true
    damaged_hit x d = subst (λ (y : ℕ). is_hit G m h y ≡ true) (sym d.start) (rw (starts, clear, damaged))
      where
        c : ℕ
        c = d.class

        i : ℕ
        i = d.slot

        at : ℕ
        at = slot_start G c i

        located : ((locate G at).class ≡ c) × ((locate G at).slot ≡ i) × ((locate G at).into ≡ 0)
        located = start_located G c i d.exists

        starts : is_start G (locate G at) ≡ true
        starts = rw (located.2, located.1, located.0, lt-ltb i (slots G c) d.exists)

        clear : is_live G m (locate G at) ≡ false
        clear = rw (located.1, located.0) (bit_clear G m c i d.exists d.clear)

        bytes : List ℕ
        bytes = slot_bytes G h c i

        other : is_damaged (canary_of m) bytes d.byte ≡ true
        other =
            let differs : get_or bytes d.byte 0 ≡ canary_byte (canary_of m) d.byte → ⊥ = λ same.
            d.differs (ap (λ (y : ℕ). get_or h (y + d.byte) 0) d.start ∙ sym (slot_at G h c i d.byte d.within) ∙ same) in
            rw (ne_eqb (get_or bytes d.byte 0) (canary_byte (canary_of m) d.byte) differs)

        damaged : has_damage (canary_of m) (take (slot_size G (locate G at).class) (drop at h)) ≡ true
        damaged =
            let size : length bytes ≡ slot_size G c = slot_length G h c i fits d.exists in
            let early : first_damage (canary_of m) bytes ≤ d.byte = first_le (is_damaged (canary_of m) bytes) 0 (length bytes) d.byte (omega arith) other in
            rw located.0 (lt-ltb (first_damage (canary_of m) bytes) (length bytes) (omega (arith, d.within)))

    -- the hits are all of them
    pub hits_damaged : AllDamaged G m h (hits G m h)
    hits_damaged =
        let test = is_hit G m h in
        record {
          exactly = λ x. (
            λ listed. hit_damaged x (those_passes test 0 _ x listed).2,
            λ d. those_member test 0 _ x (omega arith) (omega (arith, damaged_inside x d)) (damaged_hit x d),
          );
          rising = those_rising test 0 _;
        }

  -- there is but one such list
  pub damaged_same : {xs ys : List ℕ} → AllDamaged G m h xs → AllDamaged G m h ys → xs ≡ ys
  damaged_same {xs} {ys} a b =
      rising_same xs ys a.rising b.rising (λ x. (λ n. (b.exactly x).1 ((a.exactly x).0 n), λ n. (a.exactly x).1 ((b.exactly x).0 n)))
