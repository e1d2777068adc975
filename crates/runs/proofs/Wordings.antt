-- Words of the theorems say what their second wordings say (specs/Wordings.antt): of objects, counts and runs.
use Prim.Native.Nat.{ℕ, zero, suc, ◌+◌, ◌*◌, ◌/◌, ◌%◌, ◌^◌, ◌≤◌, ◌<◌}
use mathlib.Core.Path.{◌≡◌, refl, sym, ◌∙◌}
use mathlib.Core.Bool.{Bool, true, false, true≢false, and-eq-true_iff, cond}
use mathlib.Core.List.{List, [], ◌∷◌}
use mathlib.Core.Logic.Iff
use mathlib.Core.Logic.{◌↔◌, inl, inr}
use native.Mathlib.Nat.{mod-lt}
use native.Mathlib.Decide.{ℕ_discrete, dec_le}
use native.Mathlib.Omega.{arith}
use lib.Dec.{eqb}
use lib.ListN.{length, get_or, drop}
use lib.Seq.{get_or-take, get_or-drop}
use borrow.Author.Tests.{leb-true, ltb-true, eqb-true, eqb-false, le-leb, lt-ltb, ne_eqb}
use Rattle.search.specs.Those.{those}
use Rattle.search.proofs.Those.{those_more}
use Rattle.geometry.specs.declared.Layout.{Layout}
use Rattle.geometry.specs.Layout.{slot_size, slots, bitmap_at, bitmap_length}
use Rattle.geometry.proofs.Slots.{slot_size_pos}
use Rattle.bitmap.specs.Bitmap.{bit, count_set}
use Rattle.answer.specs.declared.Refusal.{Refusal}
use Rattle.answer.specs.Reply.{number_of}
use Rattle.metadata.specs.Metadata.{bitmap_of}
use Rattle.runs.specs.Run.{Entry, HeapsOfLength, Event}
use Rattle.runs.specs.Pair.{Pair, PairOff}
use Rattle.runs.specs.Live.{Object, has_byte, holding, of_class, Sound, Counted, Never}
use Rattle.runs.specs.Wordings.{At, end_of, Has, having, in_class, Disjoint, SoundByPlaces, set_slots, CountedByLists, HeapsAllOf, NowhereIn, PairByPlaces}
use Rattle.runs.proofs.Places.{at_nowhere, at_first, all_places, filter_counts, filter_some, filter_two, filter_one}

-- ---- objects

-- how many are of a class, and how many have a byte
pub class_filter : (c : ℕ) (os : List Object) → of_class c os ≡ length (in_class c os)
unfolding of_class
class_filter c [] = refl
class_filter c (o ∷ os) =
    rw (class_filter c os)
    (filter_counts (λ (p : Object). ℕ_discrete p.class c) (eqb o.class c) o os (eqb-true o.class c) (eqb-false o.class c))

module _ (G : Layout) where
  has_test : (x : ℕ) (o : Object) → has_byte G x o ≡ true → Has G x o
  has_test x o e = let (l, u) = (and-eq-true_iff _ _).0 e in (leb-true o.start x l, ltb-true x (end_of G o) u)

  lacks_test : (x : ℕ) (o : Object) → has_byte G x o ≡ false → Has G x o → ⊥
  lacks_test x o e (from, below) = true≢false (rw (le-leb o.start x from, lt-ltb x (end_of G o) below) at e)

  pub holding_filter : (x : ℕ) (os : List Object) → holding G x os ≡ length (having G x os)
  unfolding holding
  holding_filter x [] = refl
  holding_filter x (o ∷ os) = rw (holding_filter x os) (filter_counts _ _ o os (has_test x o) (lacks_test x o))

  -- an object of no bytes, as of a class past the last, would overlap nothing; but of such a class there are no slots to half-fill
  has_size : (os : List Object) → ((c : ℕ) → 2 * of_class c os ≤ slots G c) → (i : ℕ) (o : Object) → At os i o → 0 < slot_size G o.class
  has_size os half i o e =
      let some : 1 ≤ length (in_class o.class os) = filter_some _ os i e refl in
      slot_size_pos G o.class 0 (omega (arith, class_filter o.class os, half o.class))

  -- two objects that lie in one list and have byte x are two that hold it
  two_hold : (os : List Object) (x i j : ℕ) (o p : Object) → i < j → At os i o → At os j p → Has G x o → Has G x p → 2 ≤ holding G x os
  two_hold os x i j o p l e f h k = rw (holding_filter x os) (filter_two _ os i j l e f h k)

  -- objects of some bytes that share none are disjoint: else the later one's first byte lies in both
  none_shared : (o p : Object) → 0 < slot_size G o.class → 0 < slot_size G p.class → ((x : ℕ) → Has G x o → Has G x p → ⊥) → Disjoint G o p
  none_shared o p h k none = elim (dec_le (end_of G o) p.start) [
    | yes q ↦ inl q
    | no q ↦ elim (dec_le (end_of G p) o.start) [
      | yes r ↦ inr r
      | no r ↦ elim (dec_le o.start p.start) [
        | yes l ↦ absurd (none p.start (omega arith, omega arith) (omega arith, omega arith))
        | no l ↦ absurd (none o.start (omega arith, omega arith) (omega arith, omega arith))
      ]
    ]
  ]

  -- disjoint objects share none
  disjoint_shares : (x : ℕ) (o p : Object) → Disjoint G o p → Has G x o → Has G x p → ⊥
  disjoint_shares x o p (inl l) (a, b) (c, d) = omega arith
  disjoint_shares x o p (inr l) (a, b) (c, d) = omega arith

  pub sound_places : (os : List Object) → Sound G os ↔ SoundByPlaces G os
  sound_places os = (to, from)
    where
      to : Sound G os → SoundByPlaces G os
      to s = record { apart = apart; half = λ c. omega (arith, class_filter c os, s.half c) }
        where
          sized : (i : ℕ) (o : Object) → At os i o → 0 < slot_size G o.class
          sized = has_size os (λ c. omega (arith, s.half c))

          apart : (i j : ℕ) (o p : Object) → i < j → At os i o → At os j p → Disjoint G o p
          apart i j o p l e f =
              none_shared o p (sized i o e) (sized j p f) (λ x h k. omega (arith, two_hold os x i j o p l e f h k, s.apart x))

      from : SoundByPlaces G os → Sound G os
      from s =
          record {
            apart = λ x. rw (holding_filter x os) (filter_one _ os (λ i j o p l e f. disjoint_shares x o p (s.apart i j o p l e f)));
            half = λ c. omega (arith, class_filter c os, s.half c);
          }

-- ---- counts

-- as many are set as the test finds that tells which
count_those : (test : ℕ → Bool) (b : List ℕ) (n : ℕ) → ((i : ℕ) → i < n → bit b i ≡ cond (test i) 1 0) → count_set b n ≡ length (those test 0 n)
unfolding count_set those
count_those test b zero h = refl
count_those test b (suc n) h =
    let here : 0 + n ≡ n = omega arith in
    let more = rw here at (those_more test 0 n) in
    omega (arith, h n (omega arith), count_those test b n (λ i l. h i (omega arith)), more)

-- a bit is 1 or 0 as the test says
bit_test : (v : ℕ) → v < 2 → v ≡ cond (eqb v 1) 1 0
bit_test v l = elim (ℕ_discrete v 1) [ yes e ↦ rw e refl | no n ↦ rw (ne_eqb v 1 n) (omega arith) ]

module _ (G : Layout) (m : List ℕ) where
  -- the bit of a slot, in its bitmap and in the whole metadata
  bit_at : (c i : ℕ) → i < slots G c → bit (bitmap_of G c m) i ≡ get_or m (bitmap_at G c + i / 8) 0 / 2 ^ (i % 8) % 2
  bit_at c i l =
      let byte : i / 8 < bitmap_length G c = omega arith in
      rw (get_or-take (bitmap_length G c) (drop (bitmap_at G c) m) (i / 8) 0 byte, get_or-drop (bitmap_at G c) m (i / 8) 0)

  pub set_slots_lem : (c : ℕ) → count_set (bitmap_of G c m) (slots G c) ≡ length (set_slots G m c)
  set_slots_lem c =
      count_those _ (bitmap_of G c m) (slots G c) (λ i l. bit_at c i l ∙ bit_test _ (mod-lt _ (omega arith)))

  pub counted_lists : (os : List Object) → Counted G m os ↔ CountedByLists G m os
  counted_lists os = (
    λ k. record { set = λ c l. k.set c l ∙ set_slots_lem c; objects = λ c l. k.objects c l ∙ class_filter c os },
    λ k. record { set = λ c l. k.set c l ∙ sym (set_slots_lem c); objects = λ c l. k.objects c l ∙ sym (class_filter c os) },
  )

-- ---- runs

pub heaps_places : (n : ℕ) (es : List Entry) → HeapsOfLength n es ↔ HeapsAllOf n es
heaps_places n = all_places (λ e. length e.heap ≡ n) (HeapsOfLength n) tt (λ e es. Iff.rfl)

pub never_places : (r : Refusal) (past : List Event) → Never r past ↔ NowhereIn r past
never_places r = all_places (λ a. a.answer.number ≡ number_of r → ⊥) (Never r) tt (λ a past. Iff.rfl)

module _ (G : Layout) where
  pub pair_places : (past other : List Event) → PairOff G past other ↔ PairByPlaces G past other
  pair_places [] [] = (λ h. (refl, λ i a b at. absurd (at_nowhere at)), λ h. tt)
  pair_places [] (b ∷ other) = (λ h. absurd h, λ h. absurd (omega (arith, h.0)))
  pair_places (a ∷ past) [] = (λ h. absurd h, λ h. absurd (omega (arith, h.0)))
  pair_places (a ∷ past) (b ∷ other) =
      let (there, back) = pair_places past other in (
        λ (p, ps). let (lengths, rest) = there ps in (omega arith, to p rest),
        λ (lengths, h). (h 0 a b refl refl, back (omega arith, λ i. h (suc i))),
      )
    where
      to : Pair G a b → ((i : ℕ) (c d : Event) → At past i c → At other i d → Pair G c d)
          → (i : ℕ) (c d : Event) → At (a ∷ past) i c → At (b ∷ other) i d → Pair G c d
      to p rest zero c d e f = rw (← at_first e, ← at_first f) p
      to p rest (suc i) c d e f = rest i c d e f
