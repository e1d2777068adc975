-- Parts of the metadata read back after one is written.
use Prim.Native.Nat.{ℕ, suc, ◌+◌, ◌-◌, ◌^◌, ◌≤◌, ◌<◌}
use mathlib.Core.Path.{◌≡◌, ap, ◌∙◌}
use mathlib.Core.List.{List}
use native.Mathlib.Nat.{le-suc, add-sub_cancel_left}
use native.Mathlib.Decide.{dec_lt}
use native.Mathlib.Omega.{arith}
use lib.ListN.{length, take, drop, length-take, length-drop}
use Rattle.mwc.specs.declared.Generator.{Generator}
use Rattle.geometry.specs.declared.Layout.{Layout}
use Rattle.geometry.specs.declared.Part.{Part}
use Rattle.geometry.specs.Layout.{classes, canary_at, header, bitmap_at, bitmap_length, part_of, metadata_length}
use Rattle.geometry.proofs.Geometry.{bitmap_rising, bitmap_after, bitmap_inside, bitmap_before}
use Rattle.words.specs.Word.{word_of, word_at, put_word}
use Rattle.words.proofs.Stored.{put_length, put_after, word_same, word_stored, word_before, word_after}
use Rattle.writing.specs.Overwrite.{overwrite}
use Rattle.writing.proofs.Parts.{part_here, part_before, part_after}
use Rattle.metadata.specs.Metadata.{generator_of, with_generator, count_at, count_of, with_count, canary_of, with_canary, bitmap_of}

-- ---- the fields

-- a word stored among them keeps the bitmaps
field_bitmaps : (m : List ℕ) (at n : ℕ) → at + 4 ≤ header → (G : Layout) (d : ℕ) → bitmap_of G d (put_word m at n) ≡ bitmap_of G d m
field_bitmaps m at n h G d = ap (take (bitmap_length G d)) (put_after m at n (bitmap_at G d) (omega (arith, bitmap_after G d)))

module _ (m : List ℕ) (g : Generator) where
  -- a generator stored keeps the length, and what lies after the fields
  pub generator_length : length (with_generator m g) ≡ length m
  generator_length = put_length (put_word m 0 g.z) 4 g.w ∙ put_length m 0 g.z

  -- it is read back
  pub generator_written : header ≤ length m → g.z < 2 ^ 32 → g.w < 2 ^ 32 → generator_of (with_generator m g) ≡ g
  generator_written room z w =
      let first : List ℕ = put_word m 0 g.z in
      rw (
        word_before first 4 g.w 0 (omega arith),
        word_stored m 0 g.z (omega arith) z,
        word_stored first 4 g.w (omega (arith, put_length m 0 g.z)) w,
      )

  generator_after : (p : ℕ) → 8 ≤ p → drop p (with_generator m g) ≡ drop p m
  generator_after p h = put_after (put_word m 0 g.z) 4 g.w p h ∙ put_after m 0 g.z p (omega arith)

  -- so it keeps the counts, the canary and the bitmaps
  pub generator_counts : (c : ℕ) → count_of c (with_generator m g) ≡ count_of c m
  generator_counts c = ap word_of (generator_after (count_at c) (omega arith))

  pub generator_canary : canary_of (with_generator m g) ≡ canary_of m
  generator_canary = ap word_of (generator_after canary_at (omega arith))

  pub generator_bitmaps : (G : Layout) (c : ℕ) → bitmap_of G c (with_generator m g) ≡ bitmap_of G c m
  generator_bitmaps G c = ap (take (bitmap_length G c)) (generator_after (bitmap_at G c) (omega (arith, bitmap_after G c)))

-- a count stored is read back, and leaves the generator, those of the other classes, the canary and the bitmaps
module _ (m : List ℕ) (c n : ℕ) where
  pub count_length : length (with_count m c n) ≡ length m
  count_length = put_length m (count_at c) n

  pub count_written : header ≤ length m → c < classes → n < 2 ^ 32 → count_of c (with_count m c n) ≡ n
  count_written room class h = word_stored m (count_at c) n (omega arith) h

  pub count_generator : generator_of (with_count m c n) ≡ generator_of m
  count_generator = rw (word_before m (count_at c) n 0 (omega arith), word_before m (count_at c) n 4 (omega arith))

  pub count_other : (d : ℕ) → (d ≡ c → ⊥) → count_of d (with_count m c n) ≡ count_of d m
  count_other d f = elim (dec_lt d c) [
    | yes h ↦ word_before m (count_at c) n (count_at d) (omega arith)
    | no h ↦ word_after m (count_at c) n (count_at d) (omega arith)
  ]

  pub count_canary : c < classes → canary_of (with_count m c n) ≡ canary_of m
  count_canary class = word_after m (count_at c) n canary_at (omega arith)

  pub count_bitmaps : (G : Layout) → c < classes → (d : ℕ) → bitmap_of G d (with_count m c n) ≡ bitmap_of G d m
  count_bitmaps G class = field_bitmaps m (count_at c) n (omega arith) G

-- a canary stored is read back, and leaves the generator, the counts and the bitmaps
module _ (m : List ℕ) (canary : ℕ) where
  pub canary_length : length (with_canary m canary) ≡ length m
  canary_length = put_length m canary_at canary

  pub canary_written : header ≤ length m → canary < 2 ^ 32 → canary_of (with_canary m canary) ≡ canary
  canary_written room h = word_stored m canary_at canary (omega arith) h

  pub canary_generator : generator_of (with_canary m canary) ≡ generator_of m
  canary_generator = rw (word_before m canary_at canary 0 (omega arith), word_before m canary_at canary 4 (omega arith))

  pub canary_counts : (c : ℕ) → c < classes → count_of c (with_canary m canary) ≡ count_of c m
  canary_counts c h = word_before m canary_at canary (count_at c) (omega arith)

  pub canary_bitmaps : (G : Layout) (d : ℕ) → bitmap_of G d (with_canary m canary) ≡ bitmap_of G d m
  canary_bitmaps = field_bitmaps m canary_at canary (omega arith)

-- ---- bitmaps

module _ (G : Layout) (m : List ℕ) (fits : length m ≡ metadata_length G) (c : ℕ) (class : c < classes) where
  -- a class's bitmap lies within the metadata
  pub bitmap_within : bitmap_at G c + bitmap_length G c ≤ length m
  bitmap_within = omega (arith, bitmap_before G c classes class)

  pub bitmap_length_lem : length (bitmap_of G c m) ≡ bitmap_length G c
  bitmap_length_lem = simp (length-take, length-drop) (omega (arith, bitmap_within))

  -- what is written from its start on touches no field
  field_kept : (b : List ℕ) (at : ℕ) → at + 4 ≤ header → word_at (overwrite m (bitmap_at G c) b) at ≡ word_at m at
  field_kept b at h =
      word_same m (overwrite m (bitmap_at G c) b) at
      (part_before m (bitmap_at G c) b (omega (arith, bitmap_within)) at 4 (omega (arith, bitmap_after G c)))

  pub bitmap_generator : (b : List ℕ) → generator_of (overwrite m (bitmap_at G c) b) ≡ generator_of m
  bitmap_generator b = rw (field_kept b 0 (omega arith), field_kept b 4 (omega arith))

  -- a bitmap written is read back, and leaves those of the other classes
  module _ (b : List ℕ) (size : length b ≡ bitmap_length G c) where
    pub bitmap_written : bitmap_of G c (overwrite m (bitmap_at G c) b) ≡ b
    bitmap_written = part_here m (bitmap_at G c) b (omega (arith, bitmap_within)) (bitmap_length G c) size

    pub bitmap_other : (d : ℕ) → (d ≡ c → ⊥) → bitmap_of G d (overwrite m (bitmap_at G c) b) ≡ bitmap_of G d m
    bitmap_other d f =
        let before : bitmap_at G c ≤ length m = omega (arith, bitmap_within) in
        elim (dec_lt d c) [
          | yes h ↦ part_before m (bitmap_at G c) b before (bitmap_at G d) (bitmap_length G d) (bitmap_before G d c h)
          | no h ↦
              let after : bitmap_at G c + length b ≤ bitmap_at G d = omega (arith, bitmap_before G c d (omega arith)) in
              ap (take (bitmap_length G d)) (part_after m (bitmap_at G c) b before (bitmap_at G d) after)
        ]

    pub bitmap_counts : (d : ℕ) → d < classes → count_of d (overwrite m (bitmap_at G c) b) ≡ count_of d m
    bitmap_counts d h = field_kept b (count_at d) (omega arith)

    pub bitmap_canary : canary_of (overwrite m (bitmap_at G c) b) ≡ canary_of m
    bitmap_canary = field_kept b canary_at (omega arith)

-- the part of the metadata that the layout tells of: it lies in them, and is the bitmap
module _ (G : Layout) (c : ℕ) {p : Part} (of : p ≡ part_of G c) where
  pub part_rises : p.start ≤ p.end
  part_rises = rw of (bitmap_rising G c (suc c) (le-suc c))

  pub part_ends : {n : ℕ} → n ≡ metadata_length G → p.end ≤ n
  part_ends fits = rw (of, fits) (bitmap_inside G (suc c))

  pub part_bitmap : (m : List ℕ) → take (p.end - p.start) (drop p.start m) ≡ bitmap_of G c m
  unfolding bitmap_at
  part_bitmap m = rw (of, add-sub_cancel_left (bitmap_at G c) (bitmap_length G c))
