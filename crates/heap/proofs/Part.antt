-- The part of the metadata that is lent as a class's bitmap.
use Prim.Native.Nat.{ℕ, ◌-◌, ◌≤◌}
use mathlib.Core.Path.{◌≡◌}
use mathlib.Core.List.{List, ◌++◌}
use lib.ListN.{length, take, drop}
use borrow.Rule.Slice.PartMut.{mid_len}
use Rattle.geometry.specs.declared.Layout.{Layout}
use Rattle.geometry.specs.declared.Part.{Part}
use Rattle.geometry.specs.Layout.{slots, bitmap_at, metadata_length, part_of}
use Rattle.writing.specs.Overwrite.{overwrite}
use Rattle.metadata.specs.Metadata.{bitmap_of}
use Rattle.metadata.proofs.Stored.{part_rises, part_ends, part_bitmap}

-- it lies in the metadata
pub lies : (G : Layout) (c : ℕ) {p : Part} → p ≡ part_of G c → {n : ℕ} → n ≡ metadata_length G → (p.start ≤ p.end) × (p.end ≤ n)
lies G c of fits = (part_rises G c of, part_ends G c of fits)

-- what changed it changed the bitmap
pub part_changed : (G : Layout) (c : ℕ) (m : List ℕ) {p : Part} {ys : List ℕ} (change : List ℕ → ℕ → List ℕ) → p ≡ part_of G c
    → length m ≡ metadata_length G
    → ys ≡ change (take (p.end - p.start) (drop p.start m)) p.slots
    → length ys ≡ length (take (p.end - p.start) (drop p.start m))
    → take p.start m ++ (ys ++ drop (p.end - p.start) (drop p.start m)) ≡ overwrite m (bitmap_at G c) (change (bitmap_of G c m) (slots G c))
part_changed G c m {p} {ys} change of fits wrote kept =
    let size : length ys ≡ p.end - p.start = rw (mid_len p.start p.end m (part_ends G c of fits)) at kept in
    rw (← size, wrote, part_bitmap G c of m, of)
