-- Examples of the words that the theorems over runs are made of: what they hold of, and near misses of which they do not
-- hold.
use Rattle.std.specs.Prelude.{Some}
use Prim.Native.Nat.{ℕ}
use mathlib.Core.Path.{◌≡◌, refl, sym}
use mathlib.Core.List.{List, [], ◌∷◌}
use native.Mathlib.Omega.{arith}
use lib.ListN.{replicate}
use Rattle.search.specs.First.{first}
use Rattle.geometry.specs.Layout.{class_of, slot_size, slot_start}
use Rattle.request.specs.declared.Request.{Request}
use Rattle.request.specs.declared.Request.TheVariants.{Allocate, Free, Remaining, Copy, Read}
use Rattle.request.specs.declared.Kind.TheVariants.{Bytes}
use Rattle.answer.specs.declared.Refusal.TheVariants.{CorruptMetadata}
use Rattle.rules.specs.Serve.{Lent, lent, lent_with}
use Rattle.runs.specs.Run.{Entry, HeapsOfLength, Event}
use Rattle.runs.specs.Pair.{Pair, allocations, frees, measurings, refusals, PairOff}
use Rattle.runs.specs.Live.{without, objects_after, live, Never}
use Rattle.runs.specs.Wordings.{trait}
use Rattle.runs.proofs.Examples.{G, H, object, slot_object}
use Rattle.runs.proofs.Traits.{pair_trait}

-- ---- live objects

-- a request that was read, and its answer
abbrev event : Request → ℕ → ℕ → Event
event q number value = record { asked = Some q; answer = record { number = number; value = value } }

-- a free ends an object, and the next allocation there makes another; a refused free and a measuring change nothing
live_then_freed : live G [] (event (Allocate 5) 0 640 ∷ event (Free 640) 0 8 ∷ []) ≡ []
unfolding live objects_after without first slot_size
live_then_freed = refl

live_again : live G [] (event (Allocate 5) 0 640 ∷ event (Free 640) 0 8 ∷ event (Allocate 8) 0 640 ∷ []) ≡ object 640 0 ∷ []
unfolding live objects_after without first slot_size
live_again = refl

still_live : live G [] (event (Allocate 5) 0 640 ∷ event (Free 640) 10 0 ∷ event (Remaining 640) 0 8 ∷ []) ≡ object 640 0 ∷ []
unfolding live objects_after without first slot_size
still_live = refl

-- an allocation of nothing makes an object as any other of class 0 does
live_of_nothing : live G [] (event (Allocate 0) 0 640 ∷ []) ≡ object 640 0 ∷ []
unfolding live objects_after first slot_size
live_of_nothing = refl

-- in the last class: a free at another offset, here of the slot beside, ends nothing
last_live : live H [] (event (Allocate 16_384) 0 (slot_start H 11 0) ∷ event (Free (slot_start H 11 1)) 0 16_384 ∷ []) ≡ slot_object H 11 0 ∷ []
unfolding live objects_after without first slot_size
last_live = refl

last_freed : live H [] (event (Allocate 8193) 0 (slot_start H 11 1) ∷ event (Free (slot_start H 11 1)) 0 16_384 ∷ []) ≡ []
unfolding live objects_after without first slot_size
last_freed = refl

-- a second object, and the first one's free
second_live :
    live G [] (event (Allocate 5) 0 640 ∷ event (Allocate 200) 0 5376 ∷ event (Free 640) 0 8 ∷ event (Copy 5376 Bytes) 0 3 ∷ [])
    ≡ object 5376 5 ∷ []
unfolding live objects_after without first slot_size
second_live = refl

-- each allocation makes an object of its own, also where another was answered the same
two_at_one_offset : live G [] (event (Allocate 5) 0 640 ∷ event (Allocate 5) 0 640 ∷ []) ≡ object 640 0 ∷ object 640 0 ∷ []
unfolding live objects_after first slot_size
two_at_one_offset = refl

-- a refused allocation makes none
none_made : live G [] (event (Allocate 5) 7 0 ∷ []) ≡ []
unfolding live objects_after
none_made = refl

-- ---- pairs

one_class : Pair G (event (Allocate 5) 0 640) (event (Allocate 8) 0 640)
unfolding first slot_size
one_class = allocations 5 8 refl refl refl refl refl

-- an allocation of nothing pairs with any of class 0
nothing_in_class_0 : (s : ℕ) → class_of G s ≡ 0 → Pair G (event (Allocate 0) 0 640) (event (Allocate s) 0 640)
unfolding first slot_size
nothing_in_class_0 s e = allocations 0 s refl refl (sym e) refl refl

one_offset : Pair G (event (Free 640) 0 8) (event (Free 640) 0 8)
one_offset = frees 640 refl refl refl refl

one_value : Pair G (event (Remaining 643) 0 5) (event (Copy 1027 Bytes) 0 5)
one_value = measurings (Remaining 643) (Copy 1027 Bytes) refl refl tt tt refl refl refl

read_and_measured : Pair G (event (Read 643 9) 0 5) (event (Remaining 643) 0 5)
read_and_measured = measurings (Read 643 9) (Remaining 643) refl refl tt tt refl refl refl

one_number : Pair G (event (Free 640) 8 0) (event (Remaining 4) 8 0)
one_number = refusals (λ e. omega (arith, e)) refl

-- what has two traits is no pair
two_classes : Pair G (event (Allocate 8) 0 640) (event (Allocate 9) 0 640) → ⊥
unfolding trait first slot_size
two_classes p = let e : ◌≡◌ {A = ℕ} 0 1 = cc (pair_trait _ p) in omega arith

nothing_and_nine : Pair G (event (Allocate 0) 0 640) (event (Allocate 9) 0 640) → ⊥
unfolding trait first slot_size
nothing_and_nine p = let e : ◌≡◌ {A = ℕ} 0 1 = cc (pair_trait _ p) in omega arith

two_offsets : Pair G (event (Free 640) 0 8) (event (Free 648) 0 8) → ⊥
unfolding trait
two_offsets p = let e : ◌≡◌ {A = ℕ} 640 648 = cc (pair_trait _ p) in omega arith

two_values : Pair G (event (Remaining 643) 0 5) (event (Remaining 642) 0 6) → ⊥
unfolding trait
two_values p = let e : ◌≡◌ {A = ℕ} 5 6 = cc (pair_trait _ p) in omega arith

two_read_values : Pair G (event (Read 643 9) 0 5) (event (Read 643 4) 0 4) → ⊥
unfolding trait
two_read_values p = let e : ◌≡◌ {A = ℕ} 5 4 = cc (pair_trait _ p) in omega arith

two_numbers : Pair G (event (Free 641) 9 0) (event (Free 640) 10 0) → ⊥
unfolding trait
two_numbers p = let e : ◌≡◌ {A = ℕ} 9 10 = cc (pair_trait _ p) in omega arith

served_and_refused : Pair G (event (Free 640) 0 8) (event (Free 640) 10 0) → ⊥
unfolding trait
served_and_refused p = let e : ◌≡◌ {A = ℕ} 0 1 = cc (pair_trait _ p) in omega arith

two_kinds : Pair G (event (Allocate 5) 0 0) (event (Remaining 0) 0 0) → ⊥
unfolding trait first slot_size
two_kinds p = let e : ◌≡◌ {A = ℕ} 0 1 = cc (pair_trait _ p) in omega arith

-- in the last class
one_last_class : Pair H (event (Allocate 8193) 0 (slot_start H 11 0)) (event (Allocate 16_384) 0 (slot_start H 11 0))
unfolding first slot_size
one_last_class = allocations 8193 16_384 refl refl refl refl refl

two_last_classes : Pair H (event (Allocate 8192) 0 (slot_start H 11 0)) (event (Allocate 16_384) 0 (slot_start H 11 0)) → ⊥
unfolding trait first slot_size
two_last_classes p = let e : ◌≡◌ {A = ℕ} 10 11 = cc (pair_trait H p) in omega arith

-- ---- runs that pair off

-- two requests of each
both_pair : PairOff G (event (Allocate 5) 0 640 ∷ event (Read 643 9) 0 5 ∷ []) (event (Allocate 8) 0 640 ∷ event (Remaining 643) 0 5 ∷ [])
both_pair = (one_class, (read_and_measured, tt))

-- near misses: the second pair is none, and a run that is longer than the other, either way round
second_no_pair : PairOff G (event (Allocate 5) 0 640 ∷ event (Free 640) 0 8 ∷ []) (event (Allocate 8) 0 640 ∷ event (Free 648) 0 8 ∷ []) → ⊥
second_no_pair (p, (q, r)) = two_offsets q

first_longer : PairOff G (event (Allocate 5) 0 640 ∷ event (Free 640) 0 8 ∷ []) (event (Allocate 8) 0 640 ∷ []) → ⊥
first_longer (p, q) = q

second_longer : PairOff G (event (Allocate 5) 0 640 ∷ []) (event (Allocate 8) 0 640 ∷ event (Free 640) 0 8 ∷ []) → ⊥
second_longer (p, q) = q

-- ---- a refusal that never comes

-- a history with other refusals than one, and histories that have it first and last
never_refused : Never CorruptMetadata (event (Free 640) 10 0 ∷ event (Allocate 5) 0 640 ∷ [])
never_refused = (λ e. omega (arith, e), (λ e. omega (arith, e), tt))

refused_first : Never CorruptMetadata (event (Free 640) 13 0 ∷ event (Allocate 5) 0 640 ∷ []) → ⊥
refused_first n = n.0 refl

refused_last : Never CorruptMetadata (event (Allocate 5) 0 640 ∷ event (Free 640) 13 0 ∷ []) → ⊥
refused_last n = n.1.0 refl

-- ---- heaps of one length

abbrev entry : List ℕ → Lent → ℕ → Entry
entry request beside n = record { request = request; lent = beside; heap = replicate n 0 }

-- whatever a request's bytes, its source and its page
all_of_twelve : HeapsOfLength 12 (entry (1 ∷ 2 ∷ 3 ∷ []) (lent []) 12 ∷ entry (replicate 16 0) (lent_with (7 ∷ 7 ∷ []) (9 ∷ [])) 12 ∷ [])
all_of_twelve = (refl, (refl, tt))

-- near misses: the first heap is longer, and the second is shorter
first_of_thirteen : HeapsOfLength 12 (entry (replicate 16 0) (lent []) 13 ∷ entry (replicate 16 0) (lent []) 12 ∷ []) → ⊥
first_of_thirteen (h, k) = omega (arith, h)

second_of_eleven : HeapsOfLength 12 (entry (replicate 16 0) (lent []) 12 ∷ entry (replicate 16 0) (lent []) 11 ∷ []) → ⊥
second_of_eleven (h, (k, r)) = omega (arith, k)
