-- Freeing an object, its remaining size, and copies into it. Where no slot is, none is live.
use Rattle.std.specs.Prelude.{ℕ, ◌-◌, List, [], ◌∷◌, Bool, not, cond, ◌&&◌, length, leb, ltb, eqb}
use Rattle.geometry.specs.declared.Layout.{Layout}
use Rattle.geometry.specs.declared.Location.{Location}
use Rattle.geometry.specs.Layout.{heap_length, slot_size, slots, locate}
use Rattle.bitmap.specs.Bitmap.{is_set}
use Rattle.answer.specs.declared.Refusal.TheVariants.{OutOfRange, NotASlotStart, NotAllocated, CorruptMetadata}
use Rattle.answer.specs.Checks.{Check, ◌when◌, checked}
use Rattle.request.specs.declared.Kind.{Kind}
use Rattle.copies.specs.Writes.{writes}
use Rattle.metadata.specs.Metadata.{count_of, bitmap_of}
use Rattle.rules.specs.Outcome.{Outcome, refused, freed, told}

abbrev pub is_live : Layout → List ℕ → Location → Bool
is_live G m l = is_set (bitmap_of G l.class m) (slots G l.class) l.slot

-- a slot begins here: not where a region has no slots, or none so far on
abbrev pub is_start : Layout → Location → Bool
is_start G l = eqb l.into 0 && ltb l.slot (slots G l.class)

-- refused past the heap's end
abbrev pub if_past : Layout → ℕ → Check
if_past G offset = OutOfRange when leb (heap_length G) offset

unfoldable pub free : Layout → List ℕ → ℕ → Outcome
free G m offset =
    let l : Location = locate G offset in
    checked refused
    (if_past G offset
    ∷ NotASlotStart when not (is_start G l)
    ∷ NotAllocated when not (is_live G m l)
    ∷ CorruptMetadata when eqb (count_of l.class m) 0
    ∷ [])
    (freed l.class l.slot)

-- the bytes from an offset to the end of the live object that it lies in; 0 where it lies in none (the paper's measured
-- space)
unfoldable pub space : Layout → List ℕ → ℕ → ℕ
space G m offset =
    let l : Location = locate G offset in
    cond (is_live G m l) (slot_size G l.class - l.into) 0

unfoldable pub remaining : Layout → List ℕ → ℕ → Outcome
remaining G m offset = checked refused (if_past G offset ∷ []) (told (space G m offset) offset [])

unfoldable pub copy : Layout → List ℕ → ℕ → Kind → List ℕ → Outcome
copy G m offset kind source =
    let bytes : List ℕ = writes kind source (space G m offset) in
    checked refused (if_past G offset ∷ []) (told (length bytes) offset bytes)
