-- Examples of the words that the theorems are made of, of objects and counts: what they hold of, and near misses of which
-- they do not hold. Those of runs are in RunExamples.antt.
use Prim.Native.Nat.{ℕ, zero, suc, ◌+◌, ◌*◌, ◌/◌, ◌≤◌, ◌<◌}
use mathlib.Core.Path.{◌≡◌, refl, subst}
use mathlib.Core.Bool.{not}
use mathlib.Core.List.{List, [], ◌∷◌}
use mathlib.Core.Logic.{inl}
use native.Mathlib.Decide.{ℕ_discrete}
use native.Mathlib.Omega.{arith}
use lib.Dec.{eqb}
use lib.ListN.{length, set, replicate}
use borrow.Author.Tests.{eq-eqb, ne_eqb, eqb-true, not-false}
use Rattle.search.specs.First.{first}
use Rattle.search.proofs.First.{first_before}
use Rattle.geometry.specs.declared.Layout.{Layout}
use Rattle.geometry.specs.Layout.{layout_of, classes, slot_size, slots, slot_start, header, bitmap_at, metadata_length}
use Rattle.bitmap.specs.Bitmap.{count_set}
use Rattle.metadata.specs.Metadata.{count_at, count_of, bitmap_of}
use Rattle.rules.specs.Open.{Setup, fresh}
use Rattle.runs.specs.Live.{Object, holding, of_class, Sound, Counted}
use Rattle.runs.specs.Wordings.{At, in_class, Disjoint}
use Rattle.runs.proofs.Places.{at_nowhere, at_first}
use Rattle.runs.proofs.Wordings.{class_filter, sound_places}
use Rattle.runs.proofs.Tracking.{tracks_counted, fresh_tracks}

-- a heap with regions of 1,024 bytes: class 0 has 128 slots of 8 bytes, class 5 has 4 of 256, and class 7 is the last with a slot
abbrev pub G : Layout
G = layout_of (classes * 1024)

-- one with regions of 32,768 bytes: class 10 has 4 slots of 8,192 bytes, and class 11, the last, has 2 of 16,384
abbrev pub H : Layout
H = layout_of (classes * 32_768)

abbrev pub object : ℕ → ℕ → Object
object start class = record { start = start; class = class }

-- slot i of class c, live
abbrev pub slot_object : Layout → ℕ → ℕ → Object
slot_object F c i = object (slot_start F c i) c

-- ---- sound

-- two objects of a class with four slots or more, the second from the end of the first on
module _ (G : Layout) (a b c : ℕ) (above : a + slot_size G c ≤ b) (room : 4 ≤ slots G c) where
  two : List Object
  two = object a c ∷ object b c ∷ []

  two_apart : (i j : ℕ) (o p : Object) → i < j → At two i o → At two j p → Disjoint G o p
  unfolding two
  two_apart i zero o p l e f = absurd (omega arith)
  two_apart zero (suc zero) o p l e f = rw (← at_first e, ← at_first f) (inl above)
  two_apart (suc i) (suc zero) o p l e f = absurd (omega arith)
  two_apart i (suc (suc j)) o p l e f = absurd (at_nowhere f)

  two_half : (d : ℕ) → length (in_class d two) ≤ slots G d / 2
  unfolding of_class two
  two_half d = elim (ℕ_discrete c d) [
    | yes e ↦
        let half : of_class d two ≡ 2 = rw (eq-eqb c d e) refl in
        let many : 4 ≤ slots G d = subst (λ n. 4 ≤ slots G n) e room in
        omega (arith, class_filter d two)
    | no n ↦
        let none : of_class d two ≡ 0 = rw (ne_eqb c d n) refl in
        omega (arith, class_filter d two)
  ]

  two_sound : Sound G two
  two_sound = (sound_places G two).1 (record { apart = two_apart; half = two_half })

-- neighbours are sound, and two objects that share a byte, the last of the first, are not
neighbours : Sound G (object 0 0 ∷ object 8 0 ∷ [])
unfolding two slot_size first
neighbours = two_sound G 0 8 0 (omega arith) (omega arith)

a_byte_shared : Sound G (object 0 0 ∷ object 7 0 ∷ []) → ⊥
unfolding holding slot_size first
a_byte_shared s = omega (arith, s.apart 7)

-- a class at half is sound, and one over half is not
half_full : Sound G (object 5120 5 ∷ object 5376 5 ∷ [])
unfolding two slot_size first
half_full = two_sound G 5120 5376 5 (omega arith) (omega arith)

over_half_full : Sound G (object 5120 5 ∷ object 5376 5 ∷ object 5632 5 ∷ []) → ⊥
unfolding of_class slot_size first
over_half_full s = omega (arith, s.half 5)

-- in a large class too
large_half_full : Sound H (slot_object H 10 0 ∷ slot_object H 10 1 ∷ [])
unfolding two slot_size first
large_half_full = two_sound H (slot_start H 10 0) (slot_start H 10 1) 10 (omega arith) (omega arith)

-- near misses: both slots of the last class; objects that share a byte 16,383 bytes into one; and objects of two classes that share one, also
-- where another stands between them
last_over_half : Sound H (slot_object H 11 0 ∷ slot_object H 11 1 ∷ []) → ⊥
unfolding of_class slot_size first
last_over_half s = omega (arith, s.half 11)

far_byte_shared : Sound H (slot_object H 11 0 ∷ object (slot_start H 11 0 + 16_383) 11 ∷ []) → ⊥
unfolding holding slot_size first
far_byte_shared s = omega (arith, s.apart (slot_start H 11 0 + 16_383))

two_classes_overlap : Sound G (object 5120 5 ∷ object 5375 0 ∷ []) → ⊥
unfolding holding slot_size first
two_classes_overlap s = omega (arith, s.apart 5375)

first_and_third : Sound G (object 5120 5 ∷ object 5376 5 ∷ object 5375 0 ∷ []) → ⊥
unfolding holding slot_size first
first_and_third s = omega (arith, s.apart 5375)

-- ---- counts

-- an opening's metadata counts nothing
fresh_counted : (F : Layout) (s : Setup) → Counted F (fresh F s) []
fresh_counted F s = tracks_counted F (fresh F s) [] (fresh_tracks F s)

-- metadata of that heap with a byte for the first slots of class 0, and counts of classes 0 and 11
abbrev counting : ℕ → ℕ → ℕ → List ℕ
counting byte first last = set (set (set (replicate 94 0) 8 first) 52 last) header byte

-- in class 0 one is set, counted and live
one_counted : let m = counting 1 1 0 in
    (count_of 0 m ≡ count_set (bitmap_of G 0 m) (slots G 0)) × (count_of 0 m ≡ of_class 0 (object 0 0 ∷ []))
unfolding count_set bitmap_at slot_size first of_class
one_counted = (refl, refl)

-- near misses: one counted and live but not set, one counted and set but not live, and one counted in the last class alone
none_set : Counted G (counting 0 1 0) (object 0 0 ∷ []) → ⊥
unfolding count_set bitmap_at slot_size first
none_set k = let e : ◌≡◌ {A = ℕ} 1 0 = k.set 0 (omega arith) in omega arith

none_live : Counted G (counting 1 1 0) [] → ⊥
unfolding of_class
none_live k = let e : ◌≡◌ {A = ℕ} 1 0 = k.objects 0 (omega arith) in omega arith

one_in_the_last : Counted G (counting 0 0 1) [] → ⊥
unfolding of_class
one_in_the_last k = let e : ◌≡◌ {A = ℕ} 1 0 = k.objects 11 (omega arith) in omega arith

-- ---- counts of every class

-- metadata that count so many in class c, and the first byte of whose bitmap for c is given
abbrev counts : Layout → ℕ → ℕ → ℕ → List ℕ
counts F c count byte = set (set (replicate (metadata_length F) 0) (count_at c) count) (bitmap_at F c) byte

-- a check of each class is one computation
each_class : (f g : ℕ → ℕ) → first (λ c. not (eqb (f c) (g c))) 0 classes ≡ classes → (c : ℕ) → c < classes → f c ≡ g c
each_class f g all c l =
    eqb-true (f c) (g c) (not-false (eqb (f c) (g c)) (first_before (λ d. not (eqb (f d) (g d))) 0 classes c (omega arith) (omega arith)))

-- the last slot of the last class is live alone, and so is class 7's only slot on a small heap, where bit 1 of its byte is of no slot
last_counted : Counted H (counts H 11 1 2) (slot_object H 11 1 ∷ [])
unfolding count_set bitmap_at slot_size first of_class
last_counted = record { set = each_class _ _ refl; objects = each_class _ _ refl }

only_counted : Counted G (counts G 7 1 3) (slot_object G 7 0 ∷ [])
unfolding count_set bitmap_at slot_size first of_class
only_counted = record { set = each_class _ _ refl; objects = each_class _ _ refl }

-- near misses: counted and live but not set, in either; counted and set but not live; set and live but not counted; live in another class
last_not_set : Counted H (counts H 11 1 4) (slot_object H 11 1 ∷ []) → ⊥
unfolding count_set bitmap_at slot_size first
last_not_set k = let e : ◌≡◌ {A = ℕ} 1 0 = k.set 11 (omega arith) in omega arith

only_not_set : Counted G (counts G 7 1 2) (slot_object G 7 0 ∷ []) → ⊥
unfolding count_set bitmap_at slot_size first
only_not_set k = let e : ◌≡◌ {A = ℕ} 1 0 = k.set 7 (omega arith) in omega arith

last_not_live : Counted H (counts H 11 1 2) [] → ⊥
unfolding of_class bitmap_at slot_size first
last_not_live k = let e : ◌≡◌ {A = ℕ} 1 0 = k.objects 11 (omega arith) in omega arith

last_not_counted : Counted H (counts H 11 0 2) (slot_object H 11 1 ∷ []) → ⊥
unfolding of_class bitmap_at slot_size first
last_not_counted k = let e : ◌≡◌ {A = ℕ} 0 1 = k.objects 11 (omega arith) in omega arith

live_elsewhere : Counted H (counts H 11 1 2) (slot_object H 10 1 ∷ []) → ⊥
unfolding of_class bitmap_at slot_size first
live_elsewhere k = let e : ◌≡◌ {A = ℕ} 1 0 = k.objects 11 (omega arith) in omega arith
