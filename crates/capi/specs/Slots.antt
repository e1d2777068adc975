-- Slots as the C interface names them. Lengths are judged as a request's are; all is 0 where they are refused.
use Rattle.std.specs.Prelude.{ℕ, zero, suc, ◌+◌, cond, List, ltb, length}
use Rattle.geometry.specs.declared.Layout.{Layout}
use Rattle.geometry.specs.declared.Location.{Location}
use Rattle.geometry.specs.Layout.{classes, slot_size, slots, slot_start, locate}
use Rattle.metadata.specs.Metadata.{canary_of}
use Rattle.judge.specs.Judge.{lengths, once_laid}
use Rattle.capi.specs.declared.PohelduSlot.{PohelduSlot}

abbrev pub no_slot : PohelduSlot
no_slot = record { size_class = 0; number = 0; start = 0; len = 0 }

-- slot i of class c, where the class has so many
abbrev pub slot_of : Layout → ℕ → ℕ → PohelduSlot
slot_of G c i =
    cond (ltb i (slots G c))
    (record { size_class = c; number = i; start = slot_start G c i; len = slot_size G c })
    no_slot

-- the slot that an offset lies in, at its start or further on
abbrev pub slot_at : Layout → ℕ → PohelduSlot
slot_at G x = let l : Location = locate G x in slot_of G l.class l.slot

-- the slots of the classes before c
unfoldable pub slots_before : Layout → ℕ → ℕ
slots_before G zero = 0
slots_before G (suc c) = slots_before G c + slots G c

abbrev pub all_slots : Layout → ℕ
all_slots G = slots_before G classes

-- ---- of a heap's length and its metadata

abbrev pub nth_slot : ℕ → List ℕ → ℕ → ℕ → PohelduSlot
nth_slot heap_bytes m c i = once_laid (λ _. no_slot) (λ G. slot_of G c i) (lengths heap_bytes (length m))

abbrev pub find_slot : ℕ → List ℕ → ℕ → PohelduSlot
find_slot heap_bytes m x = once_laid (λ _. no_slot) (λ G. slot_at G x) (lengths heap_bytes (length m))

abbrev pub count_slots : ℕ → List ℕ → ℕ
count_slots heap_bytes m = once_laid (λ _. 0) all_slots (lengths heap_bytes (length m))

abbrev pub stored_pattern : ℕ → List ℕ → ℕ
stored_pattern heap_bytes m = once_laid (λ _. 0) (λ _. canary_of m) (lengths heap_bytes (length m))
