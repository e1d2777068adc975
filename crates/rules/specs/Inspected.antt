-- What inspections tell, in the words of theorems: no code cites them.
use Rattle.std.specs.Prelude.{ℕ, ◌+◌, ◌<◌, ◌≡◌, ◌↔◌, false, take, drop, get_or}
use mathlib.Core.List.{List, Memᴰ, Pairwise}
use Rattle.geometry.specs.declared.Layout.{Layout}
use Rattle.geometry.specs.Layout.{slot_size, slots, slot_start, locate}
use Rattle.bitmap.specs.Bitmap.{bit}
use Rattle.metadata.specs.Metadata.{canary_of, bitmap_of}
use Rattle.canary.specs.Canary.{canary_byte}
use Rattle.rules.specs.Object.{is_live}
use Rattle.rules.specs.Inspect.{Inspection}

-- ---- what is listed

-- the offsets that an inspection lists
abbrev pub offsets_in : Inspection → List ℕ
offsets_in i = take i.answer.value i.list

-- a slot starts at offset x, is clear, and holds a byte that is not the canary's
pub record Damaged (G : Layout) (m h : List ℕ) (x : ℕ) : Type 0 where
  pub class : ℕ
  pub slot : ℕ
  pub byte : ℕ
  pub exists : slot < slots G class
  pub start : x ≡ slot_start G class slot
  pub clear : bit (bitmap_of G class m) slot ≡ 0
  pub within : byte < slot_size G class
  pub differs : get_or h (x + byte) 0 ≡ canary_byte (canary_of m) byte → ⊥

-- the offsets of all such slots, rising, so each once
pub record AllDamaged (G : Layout) (m h offsets : List ℕ) : Type 0 where
  pub exactly : (x : ℕ) → Memᴰ x offsets ↔ Damaged G m h x
  pub rising : Pairwise ◌<◌ offsets

-- ---- what that depends on

-- the bytes of a slot of a class
abbrev pub slot_bytes : Layout → List ℕ → ℕ → ℕ → List ℕ
slot_bytes G h c i = take (slot_size G c) (drop (slot_start G c i) h)

-- two heaps hold the same bytes in every clear slot
abbrev pub ClearAlike : Layout → List ℕ → List ℕ → List ℕ → Type 0
ClearAlike G m h h' =
    (c i : ℕ) → i < slots G c → bit (bitmap_of G c m) i ≡ 0 → slot_bytes G h c i ≡ slot_bytes G h' c i

-- the same of heaps of one length: they hold the same byte at every offset in a clear slot
abbrev pub ClearBytesAlike : Layout → List ℕ → List ℕ → List ℕ → Type 0
ClearBytesAlike G m h h' =
    (x : ℕ) → let l = locate G x in
    l.slot < slots G l.class → is_live G m l ≡ false → get_or h x 0 ≡ get_or h' x 0
