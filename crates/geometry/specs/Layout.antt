-- The heap (the paper's area), its size classes and regions, and where the metadata (the paper's book) keeps each
-- class's bitmap.
-- No rule here needs a slot size or a region length to be a power of two.
use Rattle.std.specs.Prelude.{ℕ, zero, suc, ◌+◌, ◌*◌, ◌/◌, ◌%◌, ◌^◌, cond, ltb, eqb}
use Rattle.search.specs.First.{first}
use Rattle.sizes.specs.Sizes.{usual_size, class_among}
pub use Rattle.sizes.specs.Sizes.{classes, longest_slot}
use Rattle.geometry.specs.declared.Layout.{Layout}
use Rattle.geometry.specs.declared.Location.{Location}
use Rattle.geometry.specs.declared.Part.{Part}
use Rattle.geometry.specs.declared.Plan.{Plan}

-- ---- the heap

abbrev pub longest_region : ℕ
longest_region = 2 ^ 20

-- the region length that makes a heap of n bytes, a power of two from 1,024 to 1,048,576; 0 where there is none
abbrev pub region_of : ℕ → ℕ
region_of n =
    let exponent : ℕ = first (λ e. eqb n (classes * 2 ^ e)) 10 11 in
    cond (ltb exponent 21) (2 ^ exponent) 0

abbrev pub layout_of : ℕ → Layout
layout_of n = record { region = region_of n }

abbrev pub heap_length : Layout → ℕ
heap_length G = classes * G.region

-- ---- the classes

-- the bytes of a slot; 0 past the last class
unfoldable pub slot_size : Layout → ℕ → ℕ
slot_size G c = usual_size c

-- the paper's N
abbrev pub slots : Layout → ℕ → ℕ
slots G c = G.region / slot_size G c

-- the class of a size
abbrev pub class_of : Layout → ℕ → ℕ
class_of G size = class_among (slot_size G) size

-- where a slot starts, in the heap
abbrev pub slot_start : Layout → ℕ → ℕ → ℕ
slot_start G c i = c * G.region + i * slot_size G c

-- the class and the slot in whose bytes an offset lies, and how far it lies into the slot
abbrev pub locate : Layout → ℕ → Location
locate G offset =
    let size : ℕ = slot_size G (offset / G.region) in
    record { class = offset / G.region; slot = offset % G.region / size; into = offset % G.region % size }

-- ---- the metadata

-- the fields before the bitmaps are words of four bytes: the generator's two at the front, from here on one for each
-- class, and one for the canary
abbrev pub counts_at : ℕ
counts_at = 8

abbrev pub canary_at : ℕ
canary_at = counts_at + 4 * classes

-- their length
abbrev pub header : ℕ
header = canary_at + 4

abbrev pub bitmap_length : Layout → ℕ → ℕ
bitmap_length G c = (slots G c + 7) / 8

-- where a class's bitmap starts: after the fields and the bitmaps of the classes before it
unfoldable pub bitmap_at : Layout → ℕ → ℕ
bitmap_at G zero = header
bitmap_at G (suc c) = bitmap_at G c + bitmap_length G c

-- the part of the metadata that holds a class's bitmap
abbrev pub part_of : Layout → ℕ → Part
part_of G c = record { slots = slots G c; start = bitmap_at G c; end = bitmap_at G (suc c) }

abbrev pub metadata_length : Layout → ℕ
metadata_length G = bitmap_at G classes

-- what a heap's length tells
abbrev pub plan_of : ℕ → Plan
plan_of n = record { layout = layout_of n; metadata = metadata_length (layout_of n) }
