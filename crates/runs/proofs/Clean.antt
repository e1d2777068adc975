-- The theorem that an inspection lists nothing where nobody but requests writes: every clear slot holds the canary, as openings leave it and
-- requests keep it.
use Rattle.std.specs.Prelude.{Ok, Some, None}
use Prim.Native.Nat.{ℕ, ◌+◌, ◌^◌, ◌<◌}
use mathlib.Core.Path.{◌≡◌, refl, sym, ap, ap₂, ◌∙◌}
use mathlib.Core.Bool.{false, true≢false}
use mathlib.Core.List.Memᴰ
use mathlib.Core.List.{List, [], ◌∷◌}
use mathlib.Core.Logic.Dec
use native.Mathlib.Decide.{ℕ_discrete}
use native.Mathlib.Omega.{arith}
use borrow.Author.Tests.{lt-ltb, le-ltb}
use lib.ListN.{length, get_or, replicate, length-replicate, take-append-drop}
use Rattle.search.proofs.Tabulate.{tabulate_length, tabulate_at}
use Rattle.geometry.specs.declared.Layout.{Layout}
use Rattle.geometry.specs.Layout.{classes, region_of, layout_of, heap_length, slot_size, slots, slot_start, locate, metadata_length}
use Rattle.geometry.proofs.Geometry.{laid, bitmap_after}
use Rattle.geometry.proofs.Slots.{slot_inside, slot_located, located_at, into_lt}
use Rattle.request.specs.declared.Request.TheVariants.{Allocate, Free, Remaining, Copy, Read}
use Rattle.request.specs.Parse.{parse, Parsed}
use Rattle.answer.specs.Reply.{served}
use Rattle.bitmap.specs.Bitmap.{is_set}
use Rattle.judge.specs.Judge.{admit}
use Rattle.metadata.specs.Metadata.{with_generator, canary_of, bitmap_of}
use Rattle.canary.specs.Canary.{canary_byte, filled_byte, filled_heap}
use Rattle.rules.specs.Open.{Setup, fresh}
use Rattle.rules.specs.Outcome.{Outcome, freed, metadata_after, heap_after}
use Rattle.rules.specs.Object.{is_live}
use Rattle.rules.specs.Serve.{Lent, act}
use Rattle.rules.specs.Call.{State, state_of, state_after, opening}
use Rattle.rules.specs.Changing.{InRest, KeptBut}
use Rattle.rules.specs.Inspect.{hits, inspection}
use Rattle.rules.specs.Inspected.{Damaged, AllDamaged}
use Rattle.runs.specs.Undisturbed.{undisturbed}
use Rattle.rules.proofs.Effects.{live_bit, Valid, fresh_valid, Changed, allocate_takes, allocate_changes, free_ends, free_changes}
use Rattle.rules.proofs.Outcomes.{Comes, refuses, serves, allocate_comes, free_comes, remaining_comes, copy_comes, read_comes}
use Rattle.runs.proofs.Results.{result, result_valid, valid_admits, valid_acts}
use Rattle.metadata.proofs.Stored.{generator_length, canary_written}
use Rattle.rules.proofs.Damage.{clear_bit, bit_clear, hits_damaged}
use Rattle.rules.proofs.Inspecting.{inspection_laid}
use Rattle.runs.proofs.Undisturbed.{undisturbed_keeps}
use Rattle.rules.proofs.Serving.{has_layout, opened_by_lem}
use Rattle.rules.proofs.Changing.{rest_located, freed_filled, freed_around, copy_keeps, act_keeps}

-- every clear slot holds the canary throughout
abbrev pub Intact : Layout → List ℕ → List ℕ → Type 0
Intact G m h =
    (x : ℕ) → let l = locate G x in
    l.slot < slots G l.class → is_live G m l ≡ false → get_or h x 0 ≡ canary_byte (canary_of m) l.into

-- a byte of a slot lies in the heap
byte_inside : (G : Layout) (x : ℕ) → (locate G x).slot < slots G (locate G x).class → x < heap_length G
byte_inside G x some = omega (arith, located_at G x, into_lt G x some, slot_inside G (locate G x).class (locate G x).slot some)

-- ---- a slot that turns

module _ (G : Layout) (m m' : List ℕ) {c i v : ℕ} (now : Changed G m m' c i v) (h : List ℕ) (intact : Intact G m h) where
  -- another one is as it was
  other_kept : (x : ℕ) → let l = locate G x in
      (some : l.slot < slots G l.class) → is_live G m' l ≡ false → ((l.class ≡ c) × (l.slot ≡ i) → ⊥)
      → get_or h x 0 ≡ canary_byte (canary_of m') l.into
  other_kept x some clear f =
      let bit = sym (now.elsewhere (locate G x).class (locate G x).slot some f) ∙ clear_bit G m' (locate G x).class (locate G x).slot some clear in
      intact x some (bit_clear G m (locate G x).class (locate G x).slot some bit) ∙ rw now.canary

  -- it is taken, and the heap is left
  taken_intact : v ≡ 1 → Intact G m' h
  taken_intact one x some clear = other_kept x some clear (λ (p, q).
      let set : live_bit G m' (locate G x).class (locate G x).slot ≡ 1 = ap₂ (live_bit G m') p q ∙ now.here ∙ one in
      omega (arith, clear_bit G m' (locate G x).class (locate G x).slot some clear))

  -- it is given back, and filled
  given_intact : length h ≡ heap_length G → i < slots G c → Intact G m' (heap_after G m h (freed c i))
  given_intact fits slot x some clear = elim (Dec.and (ℕ_discrete (locate G x).class c) (ℕ_discrete (locate G x).slot i)) [
    | yes (p, q) ↦
        let start : slot_start G (locate G x).class (locate G x).slot ≡ slot_start G c i = ap₂ (slot_start G) p q in
        let at : x ≡ slot_start G c i + (locate G x).into = omega (arith, located_at G x) in
        let inside : (locate G x).into < slot_size G c = omega (arith, into_lt G x some, ap (slot_size G) p) in
        ap (λ (y : ℕ). get_or (heap_after G m h (freed c i)) y 0) at ∙ freed_filled G m h fits c i slot (locate G x).into inside ∙ rw now.canary
    | no f ↦ (freed_around G m h fits c i slot).bytes x f ∙ other_kept x some clear f
  ]

-- ---- a request that changes bytes of a live object alone

module _ (G : Layout) (m h : List ℕ) (intact : Intact G m h) where
  rest_intact : (offset : ℕ) {after : List ℕ} → KeptBut (InRest G m offset) h after → Intact G m after
  rest_intact offset k x some clear =
      k.bytes x (λ r.
      let (live, (p, q), l) = (rest_located G m offset x).0 r in
      true≢false (sym live ∙ sym (ap₂ (λ (c i : ℕ). is_set (bitmap_of G c m) (slots G c) i) p q) ∙ clear))
      ∙ intact x some clear

-- ---- an opening

opened_intact : (G : Layout) (s : Setup) (h : List ℕ) → length h ≡ heap_length G → s.canary < 2 ^ 32 → Intact G (fresh G s) (filled_heap G s.canary h)
opened_intact G s h fits word x some clear =
    tabulate_at (filled_byte G s.canary h) 0 (length h) x (rw fits (byte_inside G x some))
    ∙ rw (lt-ltb (locate G x).slot (slots G (locate G x).class) some, stored)
  where
    blank : List ℕ
    blank = with_generator (replicate (metadata_length G) 0) s.seeds

    size : length blank ≡ metadata_length G
    size = generator_length (replicate (metadata_length G) 0) s.seeds ∙ length-replicate (metadata_length G) 0

    stored : canary_of (fresh G s) ≡ s.canary
    stored = canary_written blank s.canary (rw size (bitmap_after G classes)) word

-- ---- a request

module _ (G : Layout) (m h : List ℕ) (valid : Valid G m) (fits : length h ≡ heap_length G) (intact : Intact G m h) where
  abbrev Keeps : Outcome → Type 0
  Keeps o = Intact G (metadata_after G m o) (heap_after G m h o)

  -- so a served outcome is enough
  kept : {o o' : Outcome} → Comes o o' → (o' ≡ o → Keeps o) → Keeps o'
  kept (refuses r) f = intact
  kept serves f = f refl

  act_intact : (beside : Lent) (p : Parsed) → Keeps (act G m beside p)
  act_intact beside (Some (Allocate size)) = kept (allocate_comes G m size) (λ e.
      let (class, takes) = allocate_takes G m valid size e in
      taken_intact G m _ (allocate_changes G m valid _ takes) h intact refl)
  act_intact beside (Some (Free offset)) = kept (free_comes G m offset) (λ e.
      let (start, ends) = free_ends G m valid offset e in
      given_intact G m _ (free_changes G m valid ends) h intact fits ends.slot)
  act_intact beside (Some (Remaining offset)) = kept (remaining_comes G m offset) (λ e. rw (take-append-drop offset h) intact)
  act_intact beside (Some (Copy offset kind)) = kept (copy_comes G m offset kind beside.source) (λ e.
      rest_intact G m h intact offset (copy_keeps G m h fits offset kind beside.source e))
  act_intact beside (Some (Read offset count)) = kept (read_comes G m offset count (length beside.page)) (λ e. intact)
  act_intact beside None = intact

-- ---- an inspection

-- so no slot is damaged
intact_undamaged : (G : Layout) (m h : List ℕ) → Intact G m h → (x : ℕ) → Damaged G m h x → ⊥
intact_undamaged G m h intact x d =
    let y : ℕ = slot_start G d.class d.slot + d.byte in
    let (class, slot) = slot_located G d.class d.slot y d.exists (omega arith) (omega (arith, d.within)) in
    let some : (locate G y).slot < slots G (locate G y).class = rw (slot, class) d.exists in
    let start : slot_start G (locate G y).class (locate G y).slot ≡ slot_start G d.class d.slot = ap₂ (slot_start G) class slot in
    let into : (locate G y).into ≡ d.byte = omega (arith, located_at G y, start) in
    let same : get_or h y 0 ≡ canary_byte (canary_of m) d.byte =
    intact y some (rw (slot, class) (bit_clear G m d.class d.slot d.exists d.clear)) ∙ ap (canary_byte (canary_of m)) into in
    d.differs (rw d.start same)

pub intact_hits : (G : Layout) (m h : List ℕ) → length h ≡ heap_length G → Intact G m h → hits G m h ≡ []
intact_hits G m h fits intact = go (hits G m h) (hits_damaged G m h fits)
  where
    go : (xs : List ℕ) → AllDamaged G m h xs → xs ≡ []
    go [] a = refl
    go (x ∷ xs) a = absurd (intact_undamaged G m h intact x ((a.exactly x).0 (Memᴰ.head refl)))

-- ---- runs

-- what is kept from request to request, on a heap of n bytes
record Kept (n : ℕ) (s : State) : Type 0 where
  fits : length s.heap ≡ n
  valid : Valid (layout_of n) s.metadata
  intact : Intact (layout_of n) s.metadata s.heap

module _ (n : ℕ) (region : region_of n ≡ 0 → ⊥) where
  step_kept : (s : State) (request : List ℕ) (beside : Lent) → Kept n s → Kept n (state_after s request beside)
  step_kept s request beside k =
      let G : Layout = layout_of n in
      let fits : length s.heap ≡ heap_length G = k.fits ∙ (laid n).whole region in
      let size = (act_keeps G s.metadata s.heap fits beside (parse request)).size in
      let intact = act_intact G s.metadata s.heap k.valid fits k.intact beside (parse request) in
      let (x, r) = result G s.metadata k.valid beside (parse request) in
      rw (k.fits, valid_acts n region s.metadata k.valid beside (parse request))
      (record { fits = size ∙ k.fits; valid = result_valid G s.metadata k.valid r; intact = intact })

  kept_unlisted : (t : State) → Kept n t → (list : List ℕ) → inspection t.heap t.metadata list ≡ record { answer = served 0; list = list }
  kept_unlisted t k list =
      let admitted : admit (length t.heap) t.metadata ≡ Ok (layout_of n) = rw k.fits (valid_admits n region t.metadata k.valid) in
      inspection_laid t.heap t.metadata list admitted
      ∙ rw (intact_hits (layout_of n) t.metadata t.heap (k.fits ∙ (laid n).whole region) k.intact, le-ltb (length list) 0 (omega arith))

-- From a served opening, after any requests, each with any source and page, with nobody else writing to the heap or the metadata: an inspection
-- lists nothing.
pub clean : (h m list : List ℕ) (s : Setup) → s.canary < 2 ^ 32 → (opening (length h) m s).answer.number ≡ 0 → (asked : List (List ℕ × Lent))
    → let opened = opening (length h) m s in
    let t = undisturbed (state_of (opened.heap h) opened.metadata) asked in
    inspection t.heap t.metadata list ≡ record { answer = served 0; list = list }
clean h m list s word e asked =
    let n : ℕ = length h in
    let region = has_layout n m s e in
    let start : State = state_of (filled_heap (layout_of n) s.canary h) (fresh (layout_of n) s) in
    let opened : Kept n start =
    record {
      fits = tabulate_length (filled_byte (layout_of n) s.canary h) 0 n;
      valid = fresh_valid (layout_of n) s (laid n).small;
      intact = opened_intact (layout_of n) s h ((laid n).whole region) word;
    } in
    rw (opened_by_lem n m s e) (kept_unlisted n region (undisturbed start asked) (undisturbed_keeps (Kept n) (step_kept n region) asked start opened) list)
