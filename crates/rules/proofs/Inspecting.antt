-- What each way through an inspection comes to, and the theorems of what it lists: nothing where it is refused; where it is served all damaged
-- clear slots; and that this depends on no byte of a live slot, and on none outside slots.
use Rattle.std.specs.Prelude.{Ok, Err}
use Prim.Native.Nat.{ℕ, ◌+◌, ◌<◌}
use mathlib.Core.Path.{◌≡◌, refl, sym, ap, ◌∙◌}
use mathlib.Core.Logic.{◌↔◌}
use mathlib.Core.Bool.{Bool, true, false}
use mathlib.Core.List.{List}
use native.Mathlib.Omega.{arith}
use borrow.Author.Tests.{ltb-true, lt-ltb}
use lib.Dec.{ltb}
use lib.ListN.{length, drop, get_or}
use lib.Seq.{take-append_seam}
use Rattle.search.proofs.Rising.{rising_same}
use Rattle.geometry.specs.declared.Layout.{Layout}
use Rattle.geometry.specs.Layout.{heap_length, layout_of}
use Rattle.answer.specs.declared.Refusal.{Refusal}
use Rattle.answer.specs.declared.Refusal.TheVariants.{ListTooShort}
use Rattle.answer.specs.Reply.{number_of}
use Rattle.answer.proofs.Numbers.{refusal_number}
use Rattle.judge.specs.Judge.{admit, Judged}
use Rattle.rules.specs.Inspect.{hits, Inspection, unlisted, listed, listed_whole, inspection}
use Rattle.rules.specs.Inspected.{offsets_in, Damaged, AllDamaged, ClearAlike}
use Rattle.judge.proofs.Judging.{admit_fits}
use Rattle.rules.proofs.Damage.{slot_at, hits_damaged, damaged_same}

module _ (h m list : List ℕ) where
  pub inspection_unfit : {r : Refusal} → admit (length h) m ≡ Err r → inspection h m list ≡ unlisted list r
  unfolding inspection
  inspection_unfit e = rw e

  pub inspection_laid : {G : Layout} → admit (length h) m ≡ Ok G → inspection h m list ≡ listed_whole list (hits G m h)
  unfolding inspection
  inspection_laid e = rw e

module _ (list offsets : List ℕ) where
  -- what is listed can be read back
  listed_offsets : offsets_in (listed list offsets) ≡ offsets
  listed_offsets = take-append_seam offsets (drop (length offsets) (drop 0 list))

  -- so a list that was long enough holds all
  whole_offsets : (listed_whole list offsets).answer.number ≡ 0
      → (offsets_in (listed_whole list offsets) ≡ offsets) × ((listed_whole list offsets).answer.value ≡ length offsets)
  whole_offsets = go (ltb (length list) (length offsets)) refl
    where
      go : (t : Bool) → ltb (length list) (length offsets) ≡ t → let i = listed_whole list offsets in
          i.answer.number ≡ 0 → (offsets_in i ≡ offsets) × (i.answer.value ≡ length offsets)
      go true s = rw s (λ e. absurd (refusal_number ListTooShort e))
      go false s = rw s (λ e. (listed_offsets, refl))

  -- and it was too short exactly where they are more
  whole_short : ((listed_whole list offsets).answer.number ≡ number_of ListTooShort) ↔ (length list < length offsets)
  whole_short = (go (ltb (length list) (length offsets)) refl, λ l. rw (lt-ltb (length list) (length offsets) l))
    where
      go : (t : Bool) → ltb (length list) (length offsets) ≡ t
          → (listed_whole list offsets).answer.number ≡ number_of ListTooShort → length list < length offsets
      go true s = λ e. ltb-true (length list) (length offsets) s
      go false s = rw s (λ e. absurd (refusal_number ListTooShort (sym e)))

-- ---- refused

-- a refusal has value 0, and leaves the list
pub inspection_refused : (h m list : List ℕ) → let i = inspection h m list in
    (i.answer.number ≡ 0 → ⊥) → (i.answer.value ≡ 0) × (i.list ≡ list)
inspection_refused h m list = go (admit (length h) m) refl
  where
    go : (j : Judged) → admit (length h) m ≡ j
        → ((inspection h m list).answer.number ≡ 0 → ⊥) → ((inspection h m list).answer.value ≡ 0) × ((inspection h m list).list ≡ list)
    go (Err r) e = rw (inspection_unfit h m list e) (λ f. (refl, refl))
    go (Ok G) e = rw (inspection_laid h m list e) (short (ltb (length list) (length (hits G m h))) refl)
      where
        short : (t : Bool) → ltb (length list) (length (hits G m h)) ≡ t → let i = listed_whole list (hits G m h) in
            (i.answer.number ≡ 0 → ⊥) → (i.answer.value ≡ 0) × (i.list ≡ list)
        short true s = rw s (λ f. (refl, refl))
        short false s = rw s (λ f. absurd (f refl))

-- ---- served

-- With lengths and counts that are right, an inspection goes by the offsets of all damaged clear slots: there is one list of them.
module _ (h m list : List ℕ) {G : Layout} (admitted : admit (length h) m ≡ Ok G) where
  pub all_damaged : AllDamaged G m h (hits G m h)
  all_damaged = hits_damaged G m h (admit_fits (length h) m admitted).1.heap

  pub inspection_whole : {offsets : List ℕ} → AllDamaged G m h offsets → inspection h m list ≡ listed_whole list offsets
  inspection_whole a = inspection_laid h m list admitted ∙ ap (listed_whole list) (damaged_same G m h all_damaged a)

  -- It is refused for the list exactly where that has too little room for them.
  pub inspection_short : ((inspection h m list).answer.number ≡ number_of ListTooShort)
      ↔ ((offsets : List ℕ) × AllDamaged G m h offsets × (length list < length offsets))
  inspection_short = (
    λ e. (hits G m h, all_damaged, (whole_short list (hits G m h)).0 (rw (inspection_whole all_damaged) at e)),
    λ (offsets, a, l). rw (inspection_whole a) ((whole_short list offsets).1 l),
  )

-- A served inspection lists an offset exactly when a clear slot starts there that holds a byte other than the canary's. The offsets rise, and its
-- value is their number.
pub inspection_lists : (h m list : List ℕ) → let i = inspection h m list in
    i.answer.number ≡ 0 → AllDamaged (layout_of (length h)) m h (offsets_in i) × (length (offsets_in i) ≡ i.answer.value)
inspection_lists h m list = go (admit (length h) m) refl
  where
    go : (j : Judged) → admit (length h) m ≡ j → let i = inspection h m list in
        i.answer.number ≡ 0 → AllDamaged (layout_of (length h)) m h (offsets_in i) × (length (offsets_in i) ≡ i.answer.value)
    go (Err r) e = rw (inspection_unfit h m list e) (λ f. absurd (refusal_number r f))
    go (Ok G) e = rw (inspection_laid h m list e) (λ f.
        let (back, value) = whole_offsets list (hits G m h) f in
        rw (back, value, ← (admit_fits (length h) m e).0) (all_damaged h m list e, refl))

-- ---- what that depends on

module _ (G : Layout) (m h h' : List ℕ) (same : ClearAlike G m h h') where
  damaged_alike : (x : ℕ) → Damaged G m h x → Damaged G m h' x
  damaged_alike x d =
      let byte : get_or h (x + d.byte) 0 ≡ get_or h' (x + d.byte) 0 =
      rw d.start
      (sym (slot_at G h d.class d.slot d.byte d.within)
      ∙ ap (λ (s : List ℕ). get_or s d.byte 0) (same d.class d.slot d.exists (omega (arith, d.clear)))
      ∙ slot_at G h' d.class d.slot d.byte d.within) in
      record {
        class = d.class;
        slot = d.slot;
        byte = d.byte;
        exists = d.exists;
        start = d.start;
        clear = d.clear;
        within = d.within;
        differs = λ e. d.differs (byte ∙ e);
      }

hits_same : (G : Layout) (m h h' : List ℕ) → length h ≡ heap_length G → length h' ≡ heap_length G → ClearAlike G m h h' → hits G m h ≡ hits G m h'
hits_same G m h h' fits fits' same =
    let a = hits_damaged G m h fits in
    let b = hits_damaged G m h' fits' in
    rising_same (hits G m h) (hits G m h') a.rising b.rising (λ x. (
      λ n. (b.exactly x).1 (damaged_alike G m h h' same x ((a.exactly x).0 n)),
      λ n. (a.exactly x).1 (damaged_alike G m h' h (λ c i slot clear. sym (same c i slot clear)) x ((b.exactly x).0 n)),
    ))

-- two lists of one length are given the same offsets, or one refusal
abbrev Same : Inspection → Inspection → Type 0
Same i i' = (i.answer ≡ i'.answer) × (offsets_in i ≡ offsets_in i')

whole_same : (list list' offsets : List ℕ) → length list ≡ length list' → Same (listed_whole list offsets) (listed_whole list' offsets)
whole_same list list' offsets long = go (ltb (length list) (length offsets)) refl
  where
    go : (t : Bool) → ltb (length list) (length offsets) ≡ t → Same (listed_whole list offsets) (listed_whole list' offsets)
    go true e = rw (e, rw long at e) (refl, refl)
    go false e = rw (e, rw long at e) (refl, listed_offsets list offsets ∙ sym (listed_offsets list' offsets))

-- On one metadata, with heaps of one length that hold the same bytes in clear slots and lists of one length: the same answer, and the same
-- offsets.
pub same_inspection : (h h' m list list' : List ℕ) → length h ≡ length h' → length list ≡ length list' → ClearAlike (layout_of (length h)) m h h'
    → let i = inspection h m list in
    let i' = inspection h' m list' in
    (i.answer ≡ i'.answer) × (offsets_in i ≡ offsets_in i')
same_inspection h h' m list list' long room same = go (admit (length h) m) refl
  where
    go : (j : Judged) → admit (length h) m ≡ j → Same (inspection h m list) (inspection h' m list')
    go (Err r) e = rw (inspection_unfit h m list e, inspection_unfit h' m list' (rw long at e)) (refl, refl)
    go (Ok G) e =
        let (of, fits) = admit_fits (length h) m e in
        rw (
          inspection_laid h m list e,
          inspection_laid h' m list' (rw long at e),
          ← (hits_same G m h h' fits.heap (sym long ∙ fits.heap) (rw of same)),
        )
        (whole_same list list' (hits G m h) room)
