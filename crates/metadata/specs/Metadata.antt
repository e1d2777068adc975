-- The metadata (the paper's book): the generator's two halves, each class's live count, the canary, then the bitmaps.
use Rattle.std.specs.Prelude.{ℕ, ◌+◌, ◌*◌, List, take, drop}
use Rattle.words.specs.Word.{word_at, put_word}
use Rattle.mwc.specs.declared.Generator.{Generator}
use Rattle.geometry.specs.declared.Layout.{Layout}
use Rattle.geometry.specs.Layout.{counts_at, canary_at, bitmap_at, bitmap_length}

-- z is the word at 0 and w that at 4; the live counts stand in the order of their classes
abbrev pub generator_of : List ℕ → Generator
generator_of m = record { z = word_at m 0; w = word_at m 4 }

abbrev pub with_generator : List ℕ → Generator → List ℕ
with_generator m g = put_word (put_word m 0 g.z) 4 g.w

abbrev pub count_at : ℕ → ℕ
count_at c = counts_at + 4 * c

abbrev pub count_of : ℕ → List ℕ → ℕ
count_of c m = word_at m (count_at c)

abbrev pub with_count : List ℕ → ℕ → ℕ → List ℕ
with_count m c count = put_word m (count_at c) count

abbrev pub canary_of : List ℕ → ℕ
canary_of m = word_at m canary_at

abbrev pub with_canary : List ℕ → ℕ → List ℕ
with_canary m canary = put_word m canary_at canary

-- the part that holds a class's bitmap
abbrev pub bitmap_of : Layout → ℕ → List ℕ → List ℕ
bitmap_of G c m = take (bitmap_length G c) (drop (bitmap_at G c) m)
