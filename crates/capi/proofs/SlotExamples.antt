-- Worked examples of slots by class and number, by offset and counted, and of the stored pattern: what is right was
-- worked out from the rules, apart from the definitions.
use Prim.Native.Nat.{ℕ}
use mathlib.Core.Path.{◌≡◌, refl}
use mathlib.Core.List.{List, [], ◌∷◌, ◌++◌}
use lib.ListN.{replicate}
use Rattle.search.specs.First.{first}
use Rattle.geometry.specs.Layout.{layout_of, slot_size, bitmap_at}
use Rattle.judge.specs.Judge.{lengths}
use Rattle.capi.specs.declared.PohelduSlot.{PohelduSlot}
use Rattle.capi.specs.Slots.{no_slot, slots_before, all_slots, nth_slot, find_slot, count_slots, stored_pattern}

abbrev pub slot : ℕ → ℕ → ℕ → ℕ → PohelduSlot
slot c i start len = record { size_class = c; number = i; start = start; len = len }

-- regions of 1,024 bytes: class 5 has four slots of 256, class 7 one of 1,024, class 8 none
abbrev pub heap : ℕ
heap = 12_288

abbrev pub metadata : List ℕ
metadata = replicate 94 0xff

-- the first slot of all, the last of its class, the only one of its class; one past the last, a class without slots,
-- one past the last class, and number and class at their largest
abbrev pub nth : List PohelduSlot
nth =
    nth_slot heap metadata 0 0
    ∷ nth_slot heap metadata 5 3
    ∷ nth_slot heap metadata 7 0
    ∷ nth_slot heap metadata 5 4
    ∷ nth_slot heap metadata 8 0
    ∷ nth_slot heap metadata 12 0
    ∷ nth_slot heap metadata 4_294_967_295 0
    ∷ nth_slot heap metadata 0 4_294_967_295
    ∷ []

pub nth_slots : nth
    ≡ slot 0 0 0 8
    ∷ slot 5 3 5_888 256
    ∷ slot 7 0 7_168 1_024
    ∷ no_slot
    ∷ no_slot
    ∷ no_slot
    ∷ no_slot
    ∷ no_slot
    ∷ []
unfolding lengths first slot_size bitmap_at
nth_slots = refl

-- the byte before a slot, its first, its last and the one after; in a class without slots, and past the heap's end
abbrev pub found : List PohelduSlot
found =
    find_slot heap metadata 5_887
    ∷ find_slot heap metadata 5_888
    ∷ find_slot heap metadata 6_143
    ∷ find_slot heap metadata 6_144
    ∷ find_slot heap metadata 8_192
    ∷ find_slot heap metadata 12_287
    ∷ find_slot heap metadata 12_288
    ∷ find_slot heap metadata 4_294_967_295
    ∷ []

pub found_slots : found
    ≡ slot 5 2 5_632 256
    ∷ slot 5 3 5_888 256
    ∷ slot 5 3 5_888 256
    ∷ slot 6 0 6_144 512
    ∷ no_slot
    ∷ no_slot
    ∷ no_slot
    ∷ no_slot
    ∷ []
unfolding lengths first slot_size bitmap_at
found_slots = refl

-- twice the region: class 8 has a slot there, and the metadata are as long as that heap's
pub longer_slots : nth_slot 24_576 (replicate 126 0) 8 0 ∷ find_slot 24_576 (replicate 126 0) 2_047 ∷ []
    ≡ slot 8 0 16_384 2_048 ∷ slot 0 255 2_040 8 ∷ []
unfolding lengths first slot_size bitmap_at
longer_slots = refl

-- a heap or metadata a byte too short
pub refused_slots : nth_slot 12_287 metadata 0 0
    ∷ nth_slot heap (replicate 93 0xff) 0 0
    ∷ find_slot 12_287 metadata 0
    ∷ find_slot heap (replicate 93 0xff) 0
    ∷ []
    ≡ no_slot ∷ no_slot ∷ no_slot ∷ no_slot ∷ []
unfolding lengths first slot_size bitmap_at
refused_slots = refl

-- 128 and 64 down to 1; the shortest regions and the longest
pub counted_slots : count_slots heap metadata
    ∷ count_slots 12_287 metadata
    ∷ count_slots heap (replicate 95 0xff)
    ∷ all_slots (layout_of 24_576)
    ∷ all_slots (layout_of 12_582_912)
    ∷ []
    ≡ 255 ∷ 0 ∷ 0 ∷ 511 ∷ 262_080 ∷ []
unfolding lengths first slot_size bitmap_at slots_before
counted_slots = refl

-- the word at 56, lowest byte first
abbrev pub patterned : List ℕ
patterned = replicate 56 0xff ++ (0xa9 ∷ 0xc7 ∷ 0xe3 ∷ 0xb5 ∷ []) ++ replicate 34 0xff

pub stored_patterns : stored_pattern heap patterned
    ∷ stored_pattern 12_287 patterned
    ∷ stored_pattern heap (patterned ++ (0 ∷ []))
    ∷ []
    ≡ 0xb5e3c7a9 ∷ 0 ∷ 0 ∷ []
unfolding lengths first slot_size bitmap_at
stored_patterns = refl
