-- The theorem on what a request leaves alone in the heap; the same of an opening; and that filling all slots afterwards makes no difference of it.
use Rattle.std.specs.Prelude.{Ok, Err, Some, None}
use Prim.Native.Nat.{ℕ, ◌+◌, ◌-◌, ◌<◌, ◌≤◌}
use mathlib.Core.Path.{◌≡◌, refl, sym, ap, ap₂, ◌∙◌}
use mathlib.Core.Bool.{Bool, true, false, true≢false}
use mathlib.Core.Logic.{◌↔◌}
use mathlib.Core.List.{List}
use native.Mathlib.Decide.{dec_lt}
use native.Mathlib.Omega.{arith}
use borrow.Author.Tests.{lt-ltb, le-ltb, eq-eqb, leb-false}
use lib.Dec.{leb, ltb}
use lib.ListN.{length, get_or, take-append-drop, get_or-eq_default}
use lib.Seq.{ext_get_or}
use Rattle.search.proofs.Tabulate.{tabulate_length, tabulate_at, tabulate_same}
use Rattle.mwc.specs.Draw.{is_unusable}
use Rattle.geometry.specs.declared.Layout.{Layout}
use Rattle.geometry.specs.declared.Location.{Location}
use Rattle.geometry.specs.Layout.{layout_of, heap_length, slot_size, slots, slot_start, locate}
use Rattle.geometry.proofs.Slots.{slot_inside, slot_located, located_at, into_lt}
use Rattle.request.specs.declared.Kind.{Kind}
use Rattle.request.specs.declared.Request.TheVariants.{Allocate, Free, Remaining, Copy, Read}
use Rattle.request.specs.Parse.{parse, Parsed}
use Rattle.writing.specs.Overwrite.{overwrite}
use Rattle.writing.proofs.Writing.{overwrite_length}
use Rattle.writing.proofs.Parts.{at_before, at_written, at_after}
use Rattle.judge.specs.Judge.{lengths, admit, Judged}
use Rattle.metadata.specs.Metadata.{canary_of}
use Rattle.canary.specs.Canary.{canary_byte, filled, filled_byte, filled_heap}
use Rattle.rules.specs.Open.{Setup}
use Rattle.rules.specs.Outcome.{Outcome, freed, told, heap_after}
use Rattle.copies.specs.Writes.{writes}
use Rattle.rules.specs.Object.{is_live, space, free, copy}
use Rattle.rules.specs.Serve.{Lent, act}
use Rattle.rules.specs.Call.{serve, opening}
use Rattle.rules.specs.Changing.{InSlot, SameSlot, InRest, MayChange, KeptBut}
use Rattle.rules.proofs.Space.{live_lt, space_within}
use Rattle.copies.proofs.Clipping.{writes_le}
use Rattle.rules.proofs.Finding.{passed, free_finds}
use Rattle.rules.proofs.Outcomes.{Comes, refuses, serves, allocate_comes, free_comes, remaining_comes, copy_comes, read_comes}
use Rattle.judge.proofs.Judging.{admit_fits, laid_fits}
use Rattle.rules.proofs.Serving.{serving_acts, serving_unfit, opening_unfit, opening_unusable, opening_served}
use Rattle.rules.proofs.Refusing.{serve_refused}

-- ---- the words of the theorem, worded otherwise

-- a byte lies in a slot: it is one of the bytes of slot i of class c, for some c and i
pub in_slot : (G : Layout) (x : ℕ)
    → InSlot G x ↔ ((c i : ℕ) × (i < slots G c) × (slot_start G c i ≤ x) × (x < slot_start G c i + slot_size G c))
in_slot G x = (
  λ some. ((locate G x).class, (locate G x).slot, some, omega (arith, located_at G x), omega (arith, located_at G x, into_lt G x some)),
  λ (c, i, some, l, u). let (p, q) = slot_located G c i x some l u in rw (q, p) some,
)

-- it is of the rest of a live object: the slot at the offset is live, and the byte lies in it, not before the offset
module _ (G : Layout) (m : List ℕ) (offset x : ℕ) where
  pub rest_located : InRest G m offset x ↔ ((is_live G m (locate G offset) ≡ true) × SameSlot G offset x × (offset ≤ x))
  unfolding space
  rest_located = (to (is_live G m (locate G offset)) refl, λ (e, (p, q), l). from e p q l)
    where
      l : Location
      l = locate G offset

      to : (t : Bool) → is_live G m l ≡ t → InRest G m offset x → (is_live G m l ≡ true) × SameSlot G offset x × (offset ≤ x)
      to false e r = let inside = rw (e, space) at r.1 in absurd (omega (arith, inside, r.0))
      to true e r =
          let inside = rw (e, space) at r.1 in
          let some : l.slot < slots G l.class = live_lt G m offset e in
          let at : offset ≡ slot_start G l.class l.slot + l.into = located_at G offset in
          (e, slot_located G l.class l.slot x some (omega (arith, r.0)) (omega (arith, inside, into_lt G offset some)), r.0)

      from : is_live G m l ≡ true → (locate G x).class ≡ l.class → (locate G x).slot ≡ l.slot → offset ≤ x → InRest G m offset x
      from e p q k =
          let some : l.slot < slots G l.class = live_lt G m offset e in
          let start : slot_start G (locate G x).class (locate G x).slot ≡ slot_start G l.class l.slot = ap₂ (slot_start G) p q in
          let size : slot_size G (locate G x).class ≡ slot_size G l.class = ap (slot_size G) p in
          rw (e, space) (k, omega (arith, located_at G x, located_at G offset, into_lt G x (rw (q, p) some), into_lt G offset some))

  rest_in_slot : InRest G m offset x → InSlot G x
  rest_in_slot r =
      let (live, (p, q), l) = rest_located.0 r in
      rw (q, p) (live_lt G m offset live)

-- a free may change it: the slot starts at the offset and is live, and the byte lies in it
pub free_slot : (G : Layout) (m : List ℕ) (offset x : ℕ)
    → MayChange G m (Some (Free offset)) x ↔ (((locate G offset).into ≡ 0) × (is_live G m (locate G offset) ≡ true) × SameSlot G offset x)
free_slot G m offset x = (
  λ (start, r). let (live, same, l) = (rest_located G m offset x).0 r in (start, live, same),
  λ (start, live, (p, q)).
      let begins : slot_start G (locate G x).class (locate G x).slot ≡ slot_start G (locate G offset).class (locate G offset).slot = ap₂ (slot_start G) p q in
      (start, (rest_located G m offset x).1 (live, (p, q), omega (arith, located_at G x, located_at G offset))),
)

-- so a byte that a request may change lies in a slot
pub change_in_slot : (G : Layout) (m : List ℕ) (p : Parsed) (x : ℕ) → MayChange G m p x → InSlot G x
change_in_slot G m (Some (Allocate size)) x f = absurd f
change_in_slot G m (Some (Free offset)) x f = rest_in_slot G m offset x f.1
change_in_slot G m (Some (Remaining offset)) x f = absurd f
change_in_slot G m (Some (Copy offset kind)) x f = rest_in_slot G m offset x f
change_in_slot G m (Some (Read offset count)) x f = absurd f
change_in_slot G m None x f = absurd f

-- ---- heaps that are kept but for some bytes

module _ {P : ℕ → Type 0} {h : List ℕ} where
  -- where nothing is changed
  kept_same : {after : List ℕ} → after ≡ h → KeptBut P h after
  kept_same e = record { size = ap length e; bytes = λ x f. ap (λ (l : List ℕ). get_or l x 0) e }

  -- where more might have been
  kept_more : {Q : ℕ → Type 0} {after : List ℕ} → ((x : ℕ) → P x → Q x) → KeptBut P h after → KeptBut Q h after
  kept_more f k = record { size = k.size; bytes = λ x g. k.bytes x (λ p. g (f x p)) }

  -- where none might have been
  kept_all : {after : List ℕ} → ((x : ℕ) → P x → ⊥) → KeptBut P h after → after ≡ h
  kept_all {after} f k = ext_get_or 0 after h k.size (λ x l. k.bytes x (f x))

  -- where some were written over
  pub kept_around : (a : ℕ) (ys : List ℕ) → a + length ys ≤ length h → ((x : ℕ) → a ≤ x → x < a + length ys → P x) → KeptBut P h (overwrite h a ys)
  kept_around a ys room f =
      record {
        size = overwrite_length h a ys room;
        bytes = λ x g. elim (dec_lt x a) [
          | yes l ↦ at_before h a ys room x 0 l
          | no l ↦ elim (dec_lt x (a + length ys)) [
            | yes u ↦ absurd (g (f x (omega arith) u))
            | no u ↦ at_after h a ys room x 0 (omega arith)
          ]
        ];
      }

-- ---- what a request comes to

module _ (G : Layout) (m h : List ℕ) (fits : length h ≡ heap_length G) where
  -- a slot that is freed is filled from its start to its end, and nothing else is
  module _ (c i : ℕ) (some : i < slots G c) where
    abbrev part : List ℕ
    part = filled (canary_of m) (slot_size G c)

    room : slot_start G c i + length part ≤ length h
    room = rw tabulate_length (omega (arith, slot_inside G c i some))

    pub freed_filled : (k : ℕ) → k < slot_size G c → get_or (heap_after G m h (freed c i)) (slot_start G c i + k) 0 ≡ canary_byte (canary_of m) k
    freed_filled k inside =
        at_written h (slot_start G c i) part room (slot_start G c i + k) 0 (omega arith) (rw tabulate_length (omega arith))
        ∙ ap (λ (n : ℕ). get_or part n 0) (let e : slot_start G c i + k - slot_start G c i ≡ k = omega arith in e)
        ∙ tabulate_at (canary_byte (canary_of m)) 0 (slot_size G c) k inside

    pub freed_around : KeptBut (λ x. ((locate G x).class ≡ c) × ((locate G x).slot ≡ i)) h (heap_after G m h (freed c i))
    freed_around = kept_around (slot_start G c i) part room (λ x l u. slot_located G c i x some l (omega (arith, rw tabulate_length at u)))

  -- a refusal changes nothing, so what is served is enough
  kept_served : {P : ℕ → Type 0} {o o' : Outcome} → Comes o o' → (o' ≡ o → KeptBut P h (heap_after G m h o)) → KeptBut P h (heap_after G m h o')
  kept_served (refuses r) f = kept_same refl
  kept_served serves f = f refl

  free_keeps : (offset : ℕ) → let l = locate G offset in
      free G m offset ≡ freed l.class l.slot → KeptBut (MayChange G m (Some (Free offset))) h (heap_after G m h (freed l.class l.slot))
  free_keeps offset e =
      let l : Location = locate G offset in
      let (at, some, set, count) = free_finds G m offset e in
      let live : is_live G m l ≡ true = rw (lt-ltb l.slot (slots G l.class) some, eq-eqb _ 1 set) in
      let begins : l.into ≡ 0 = omega (arith, located_at G offset) in
      kept_more (λ x same. (free_slot G m offset x).1 (begins, live, same)) (freed_around l.class l.slot some)

  pub copy_keeps : (offset : ℕ) (kind : Kind) (source : List ℕ) → let bytes = writes kind source (space G m offset) in
      copy G m offset kind source ≡ told (length bytes) offset bytes → KeptBut (InRest G m offset) h (overwrite h offset bytes)
  unfolding copy
  copy_keeps offset kind source e =
      let bytes : List ℕ = writes kind source (space G m offset) in
      let few : length bytes ≤ space G m offset = writes_le kind source (space G m offset) in
      let inside : offset < heap_length G = leb-false (heap_length G) offset (passed (leb (heap_length G) offset) _ _ _ tt e).0 in
      let (room, small) = space_within G m offset inside in
      kept_around offset bytes (omega arith) (λ x k u. (k, omega arith))

  pub act_keeps : (beside : Lent) (p : Parsed) → KeptBut (MayChange G m p) h (heap_after G m h (act G m beside p))
  act_keeps beside (Some (Allocate size)) = kept_served (allocate_comes G m size) (λ e. kept_same refl)
  act_keeps beside (Some (Free offset)) = kept_served (free_comes G m offset) (free_keeps offset)
  act_keeps beside (Some (Remaining offset)) = kept_served (remaining_comes G m offset) (λ e. kept_same (take-append-drop offset h))
  act_keeps beside (Some (Copy offset kind)) = kept_served (copy_comes G m offset kind beside.source) (copy_keeps offset kind beside.source)
  act_keeps beside (Some (Read offset count)) = kept_served (read_comes G m offset count (length beside.page)) (λ e. kept_same refl)
  act_keeps beside None = kept_same refl

-- ---- an opening

module _ (G : Layout) (canary : ℕ) where
  abbrev is_slot : ℕ → Bool
  is_slot x = ltb (locate G x).slot (slots G (locate G x).class)

  -- filling all slots keeps what lies in none
  filled_keeps : (h : List ℕ) → KeptBut (InSlot G) h (filled_heap G canary h)
  filled_keeps h =
      record {
        size = size;
        bytes = λ x f. elim (dec_lt x (length h)) [
          | yes l ↦ tabulate_at (filled_byte G canary h) 0 (length h) x l ∙ rw (le-ltb (locate G x).slot (slots G (locate G x).class) (omega arith))
          | no l ↦ get_or-eq_default (filled_heap G canary h) 0 (omega (arith, size)) ∙ sym (get_or-eq_default h 0 (omega arith))
        ];
      }
    where
      size : length (filled_heap G canary h) ≡ length h
      size = tabulate_length (filled_byte G canary h) 0 (length h)

  -- and gives one heap, whatever was changed in slots before
  pub refilled : {h after : List ℕ} → KeptBut (InSlot G) h after → filled_heap G canary after ≡ filled_heap G canary h
  refilled {h} {after} k =
      rw k.size (tabulate_same (filled_byte G canary after) (filled_byte G canary h) 0 (length h) 0 (λ x l u. byte x (is_slot x) refl))
    where
      byte : (x : ℕ) (t : Bool) → is_slot x ≡ t → filled_byte G canary after x ≡ filled_byte G canary h x
      byte x true e = rw e
      byte x false e = rw e (k.bytes x (λ l. true≢false (sym (lt-ltb _ _ l) ∙ e)))

-- An opening changes bytes of slots alone.
pub opening_keeps : (h m : List ℕ) (s : Setup) → KeptBut (InSlot (layout_of (length h))) h ((opening (length h) m s).heap h)
opening_keeps h m s = go (lengths (length h) (length m)) (is_unusable s.seeds) refl refl
  where
    go : (j : Judged) (t : Bool) → lengths (length h) (length m) ≡ j → is_unusable s.seeds ≡ t
        → KeptBut (InSlot (layout_of (length h))) h ((opening (length h) m s).heap h)
    go (Err r) t e f = rw (opening_unfit (length h) m s e) (kept_same refl)
    go (Ok G) true e f = rw (opening_unusable (length h) m s e f) (kept_same refl)
    go (Ok G) false e f = rw (opening_served (length h) m s e f, ← (laid_fits (length h) (length m) e).0) (filled_keeps G s.canary h)

-- ---- a request

-- On a heap of any bytes and length and metadata of any bytes and length, a request of any bytes, whatever is lent beside it, keeps the heap's length and
-- every byte that it may not change; where it is refused it keeps all.
pub request_keeps : (h m request : List ℕ) (beside : Lent)
    → let c = serve (length h) m request beside in
    KeptBut (MayChange (layout_of (length h)) m (parse request)) h (c.heap h) × ((c.answer.number ≡ 0 → ⊥) → c.heap h ≡ h)
request_keeps h m request beside = (go (admit (length h) m) refl, λ f. (serve_refused (length h) m request beside f).heap h)
  where
    go : (j : Judged) → admit (length h) m ≡ j
        → KeptBut (MayChange (layout_of (length h)) m (parse request)) h ((serve (length h) m request beside).heap h)
    go (Err r) e = rw (serving_unfit (length h) m beside (parse request) e) (kept_same refl)
    go (Ok G) e =
        let (same, fits) = admit_fits (length h) m e in
        rw (serving_acts (length h) m beside (parse request) e, ← same) (act_keeps G m h fits.heap beside (parse request))

module _ (h m request : List ℕ) (beside : Lent) where
  abbrev after : List ℕ
  after = (serve (length h) m request beside).heap h

  -- It changes bytes of slots alone.
  pub slots_alone : KeptBut (InSlot (layout_of (length h))) h after
  slots_alone = kept_more (change_in_slot (layout_of (length h)) m (parse request)) (request_keeps h m request beside).0

  -- So all slots filled afterwards, as by an opening, are as they would be without it.
  pub request_refilled : (canary : ℕ) → filled_heap (layout_of (length h)) canary after ≡ filled_heap (layout_of (length h)) canary h
  request_refilled canary = refilled (layout_of (length h)) canary slots_alone

  -- An allocation, a measuring and a read change no byte.
  unwritten : (p : Parsed) → parse request ≡ p → ((x : ℕ) → MayChange (layout_of (length h)) m p x → ⊥) → after ≡ h
  unwritten p e none = kept_all (λ x f. none x (rw e at f)) (request_keeps h m request beside).0

  pub allocation_keeps : (size : ℕ) → parse request ≡ Some (Allocate size) → after ≡ h
  allocation_keeps size e = unwritten (Some (Allocate size)) e (λ x f. f)

  pub measuring_keeps : (offset : ℕ) → parse request ≡ Some (Remaining offset) → after ≡ h
  measuring_keeps offset e = unwritten (Some (Remaining offset)) e (λ x f. f)

  pub read_keeps : (offset count : ℕ) → parse request ≡ Some (Read offset count) → after ≡ h
  read_keeps offset count e = unwritten (Some (Read offset count)) e (λ x f. f)
