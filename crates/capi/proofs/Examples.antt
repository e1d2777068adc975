-- Worked examples of the C interface's own numbers: the metadata's length, and where the bytes lie that a read shows.
use Prim.Native.Nat.{ℕ}
use mathlib.Core.Path.{◌≡◌, refl}
use mathlib.Core.List.{List, [], ◌∷◌, map}
use lib.ListN.{drop, set, replicate}
use Rattle.search.specs.First.{first}
use Rattle.geometry.specs.Layout.{slot_size, bitmap_at}
use Rattle.judge.specs.Judge.{lengths, admit}
use Rattle.rules.specs.Object.{space}
use Rattle.rules.specs.Read.{read}
use Rattle.rules.specs.Call.{serving, reading}
use Rattle.capi.specs.Numbers.{read_part, metadata_for}
use Rattle.capi.specs.declared.PohelduPart.{PohelduPart}

-- ---- the metadata's length

-- of regions of 1,024, 4,096 and 1,048,576 bytes
metadata_lengths : map metadata_for (12_288 ∷ 49_152 ∷ 12_582_912 ∷ []) ≡ 94 ∷ 190 ∷ 32_820 ∷ []
unfolding first slot_size bitmap_at
metadata_lengths = refl

-- no heap: no bytes; a byte less and more than the shortest, and 2^32 more; regions of 512, 1,536 and 2,097,152 bytes
no_heaps : map metadata_for (0 ∷ 12_287 ∷ 12_289 ∷ 4_294_979_584 ∷ 6_144 ∷ 18_432 ∷ 25_165_824 ∷ []) ≡ replicate 7 0
unfolding first slot_size bitmap_at
no_heaps = refl

-- ---- reads, in regions of 1,024 bytes

-- the first slot of class 0 (byte 60) and class 7's only one (byte 93, heap from 7,168) are live
unfoldable two_live : List ℕ
two_live = set (set (replicate 94 0) 60 0x01) 93 0x01

-- a read of four bytes, with a page of three
unfoldable read_four : List ℕ → ℕ → PohelduPart
read_four m offset = read_part (reading 12_288 m offset 4 (0x70 ∷ 0x71 ∷ 0x72 ∷ []))

abbrev part : ℕ → ℕ → ℕ → ℕ → PohelduPart
part number value of_page_flag start =
    record { number = number; value = value; of_page = of_page_flag; start = start }

-- in live objects, at the heap's first byte, where four bytes are left, and where two are; in a slot that is not live, and
-- in a region without slots; refused past the heap's end
reads : map (read_four two_live) (0 ∷ 7_170 ∷ 8_190 ∷ 8 ∷ 8_192 ∷ 12_288 ∷ [])
    ≡ part 0 4 0 0 ∷ part 0 4 0 7_170 ∷ part 0 2 0 8_190 ∷ part 0 3 1 0 ∷ part 0 3 1 0 ∷ part 8 0 1 0 ∷ []
unfolding two_live read_four first slot_size bitmap_at lengths admit space read serving
reads = refl

-- refused in a live object, since the metadata are a byte short
short_metadata : read_four (drop 1 two_live) 7_170 ≡ part 3 0 1 0
unfolding two_live read_four first slot_size bitmap_at lengths admit space read serving
short_metadata = refl
