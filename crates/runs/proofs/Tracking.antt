-- The live objects are the set slots, and are counted.
use Rattle.std.specs.Prelude.{Some}
use Prim.Native.Nat.{ℕ, ◌+◌, ◌*◌, ◌≤◌, ◌<◌}
use mathlib.Core.Path.{◌≡◌, refl, sym, subst, ◌∙◌}
use mathlib.Core.List.{List, [], ◌∷◌}
use mathlib.Core.Logic.Dec
use native.Mathlib.Nat.{le_trans}
use native.Mathlib.Decide.{ℕ_discrete}
use native.Mathlib.Omega.{arith}
use borrow.Author.Tests.{eq-eqb, ne_eqb}
use Rattle.geometry.specs.declared.Layout.{Layout}
use Rattle.geometry.specs.Layout.{classes, slots, slot_start}
use Rattle.bitmap.specs.Bitmap.{count_set}
use Rattle.bitmap.proofs.Counted.{count_none, count_same, count_but_one}
use Rattle.request.specs.declared.Request.{Request}
use Rattle.request.specs.declared.Request.TheVariants.{Allocate, Free, Remaining, Copy, Read}
use Rattle.request.specs.Parse.{Parsed}
use Rattle.answer.specs.Reply.{number_of}
use Rattle.metadata.specs.Metadata.{count_of, bitmap_of}
use Rattle.rules.specs.Open.{Setup, fresh}
use Rattle.rules.specs.Outcome.{Outcome}
use Rattle.runs.specs.Pair.{Measures}
use Rattle.runs.specs.Live.{Object, without, served_after, objects_after, of_class, Sound, Counted}
use Rattle.answer.proofs.Numbers.{refusal_number}
use Rattle.rules.proofs.Effects.{live_bit, Takes, fresh_none, fresh_clear}
use Rattle.runs.proofs.Results.{Change, turn, Made, Result, refusal, allocation, freeing, measuring, event_by}
use Rattle.runs.proofs.Objects.{IsSlot, Slots, starting, without_slots, class_parts, same_start, holding_one}
use Rattle.runs.proofs.Objects.{starting_gone, starting_kept, starting_other, starting_self}

-- the objects are slots, as many at each as its bit says, and in each class as many as are set and as it counts, no more than half
pub record Tracks (G : Layout) (m : List ℕ) (os : List Object) : Type 0 where
  pub are_slots : Slots G os
  pub bits : (c i : ℕ) → i < slots G c → starting c (slot_start G c i) os ≡ live_bit G m c i
  pub bits_set : (c : ℕ) → of_class c os ≡ count_set (bitmap_of G c m) (slots G c)
  pub counted : (c : ℕ) → c < classes → count_of c m ≡ of_class c os
  pub half : (c : ℕ) → 2 * of_class c os ≤ slots G c

-- so they are sound
pub tracks_sound : (G : Layout) (m : List ℕ) (os : List Object) → Tracks G m os → Sound G os
tracks_sound G m os t =
    record {
      apart = λ x. le_trans (holding_one G _ os t.are_slots (λ c i h. omega (arith, t.bits c i h))) (omega arith);
      half = λ c. le_trans (omega arith) (t.half _);
    }

-- and counted
pub tracks_counted : (G : Layout) (m : List ℕ) (os : List Object) → Tracks G m os → Counted G m os
tracks_counted G m os t = record { set = λ c h. t.counted c (omega arith) ∙ t.bits_set c; objects = t.counted }

-- fresh metadata has no objects
pub fresh_tracks : (G : Layout) (s : Setup) → Tracks G (fresh G s) []
unfolding starting of_class
fresh_tracks G s =
    record {
      are_slots = tt;
      bits = λ c i h. sym (fresh_clear G s c i);
      bits_set = λ c. count_none (bitmap_of G c (fresh G s)) (slots G c) (fresh_clear G s c);
      counted = λ c h. fresh_none G s c h;
      half = λ c. omega arith;
    }

-- a measuring leaves the objects
measuring_leaves : (G : Layout) (os : List Object) (q : Request) (value : ℕ) → Measures q → served_after G os (Some q) value ≡ os
measuring_leaves G os (Allocate size) value h = absurd h
measuring_leaves G os (Free offset) value h = absurd h
measuring_leaves G os (Remaining offset) value h = refl
measuring_leaves G os (Copy offset kind) value h = refl
measuring_leaves G os (Read offset count) value h = refl

module _ (G : Layout) (m m' : List ℕ) (os : List Object) (t : Tracks G m os) where
  -- a bit changes, and the objects change with it at that slot and nowhere else
  change_tracks : {v c i : ℕ} → Made G m m' (turn v c i) → (os' : List Object) → Slots G os'
      → (here : starting c (slot_start G c i) os' ≡ v)
      → (elsewhere : (d y : ℕ) → (slot_start G c i ≡ y → ⊥) → starting d y os' ≡ starting d y os)
      → (own : of_class c os' + live_bit G m c i ≡ of_class c os + v)
      → (others : (d : ℕ) → (d ≡ c → ⊥) → of_class d os' ≡ of_class d os)
      → (room : 2 * of_class c os' ≤ slots G c)
      → Tracks G m' os'
  change_tracks {v} {c} {i} (slot, was, changed) os' are_slots here elsewhere own others room =
      record { are_slots = are_slots; bits = bits; bits_set = bits_set; counted = counted; half = half }
    where
      bits : (d j : ℕ) → j < slots G d → starting d (slot_start G d j) os' ≡ live_bit G m' d j
      bits d j h = elim (Dec.and (ℕ_discrete d c) (ℕ_discrete j i)) [
        | yes (p, q) ↦ rw (p, q) (here ∙ sym changed.here)
        | no n ↦ elsewhere d (slot_start G d j) (λ e. n (same_start G d j c i h slot (sym e))) ∙ t.bits d j h ∙ sym (changed.elsewhere d j h n)
      ]

      bits_set : (d : ℕ) → of_class d os' ≡ count_set (bitmap_of G d m') (slots G d)
      bits_set d = elim (ℕ_discrete d c) [
        | yes p ↦ rw p (omega (
          arith,
          t.bits_set c,
          count_but_one (bitmap_of G c m) (bitmap_of G c m') i (slots G c) slot (λ j h n. changed.elsewhere c j h (λ e. n e.1)),
        ))
        | no n ↦ omega (
          arith,
          others d n,
          t.bits_set d,
          count_same (bitmap_of G d m) (bitmap_of G d m') (slots G d) (λ j h. changed.elsewhere d j h (λ e. n e.0)),
        )
      ]

      counted : (d : ℕ) → d < classes → count_of d m' ≡ of_class d os'
      counted d h = elim (ℕ_discrete d c) [
        | yes p ↦ rw p (omega (arith, changed.count, own, t.counted c (rw p at h)))
        | no n ↦ changed.others d h n ∙ t.counted d h ∙ sym (others d n)
      ]

      half : (d : ℕ) → 2 * of_class d os' ≤ slots G d
      half d = elim (ℕ_discrete d c) [ yes p ↦ rw p room | no n ↦ omega (arith, others d n, t.half d) ]

  -- an allocation adds the slot that it took, and a free takes away the one that it ended
  allocation_tracks : {c i : ℕ} → Takes G m c i → Made G m m' (turn 1 c i) → Tracks G m' (record { start = slot_start G c i; class = c } ∷ os)
  unfolding starting of_class
  allocation_tracks {c} {i} takes made =
      let o : Object = record { start = slot_start G c i; class = c } in
      let s : IsSlot G o = record { slot = i; within = takes.slot; starts = refl } in
      change_tracks made (o ∷ os) (s, t.are_slots)
      (omega (arith, starting_self G o s os, t.bits c i takes.slot))
      (λ d y n. rw (ne_eqb (slot_start G c i) y n) (omega arith))
      (rw (eq-eqb c c refl) (omega arith))
      (λ d n. rw (ne_eqb c d (λ e. n (sym e))) (omega arith))
      (rw (eq-eqb c c refl) (omega (arith, takes.room, t.counted c takes.class)))

  free_tracks : {c i : ℕ} → Made G m m' (turn 0 c i) → Tracks G m' (without (slot_start G c i) os)
  free_tracks {c} {i} made =
      let x : ℕ = slot_start G c i in
      change_tracks made (without x os) (without_slots x G os t.are_slots)
      (starting_gone x c os)
      (λ d y n. starting_kept x d y n os)
      (omega (arith, class_parts x c os, t.bits c i made.0))
      (λ d n. omega (arith, class_parts x d os, starting_other G c i d made.0 n os t.are_slots))
      (omega (arith, class_parts x c os, t.half c))

  -- whatever a request comes to, the objects after it are those that the metadata after it has
  pub result_tracks : {p : Parsed} {o : Outcome} {x : Change} → Result G m p o x → Made G m m' x
      → Tracks G m' (objects_after G os (event_by G p o))
  unfolding objects_after
  result_tracks (refusal p r) made = rw (made, ne_eqb (number_of r) 0 (refusal_number r), objects_after) t
  result_tracks (allocation size class found takes) made = rw (← class) (allocation_tracks takes made)
  result_tracks (freeing offset start ends) made = subst (λ x. Tracks G m' (without x os)) (sym start) (free_tracks made)
  result_tracks (measuring q h tells) made = rw (made, tells.served, measuring_leaves G os q _ h) t
