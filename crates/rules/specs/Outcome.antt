-- What a request comes to, and what that means for its answer, the metadata, the heap and what the caller is shown. All
-- but the heap afterwards depends on the heap's length alone, and not on its bytes.
use Rattle.std.specs.Prelude.{ℕ, suc, ◌-◌, List}
use Rattle.mwc.specs.declared.Generator.{Generator}
use Rattle.geometry.specs.declared.Layout.{Layout}
use Rattle.geometry.specs.Layout.{slot_size, slots, slot_start, bitmap_at}
use Rattle.bitmap.specs.Bitmap.{set_slot, clear_slot}
use Rattle.answer.specs.declared.Refusal.{Refusal}
use Rattle.answer.specs.declared.Reply.{Reply}
use Rattle.answer.specs.Reply.{served, refused_by}
use Rattle.writing.specs.Overwrite.{overwrite}
use Rattle.view.specs.declared.View.{View}
use Rattle.metadata.specs.Metadata.{with_generator, count_of, with_count, canary_of, bitmap_of}
use Rattle.canary.specs.Canary.{filled}
use Rattle.view.specs.View.{no_view}

pub data Outcome : Type 0 where
  refused : Refusal → Outcome
  -- a slot of a class, and the generator after its draws
  allocated : ℕ → ℕ → Generator → Outcome
  -- a slot of a class
  freed : ℕ → ℕ → Outcome
  -- a value, and bytes written from an offset on
  told : ℕ → ℕ → List ℕ → Outcome
  -- bytes that are shown
  shown : View → Outcome

abbrev pub reply : Layout → Outcome → Reply
reply G (refused r) = refused_by r
reply G (allocated c i g) = served (slot_start G c i)
reply G (freed c i) = served (slot_size G c)
reply G (told value offset bytes) = served value
reply G (shown v) = served v.len

abbrev pub metadata_after : Layout → List ℕ → Outcome → List ℕ
metadata_after G m (refused r) = m
metadata_after G m (allocated c i g) =
    let set : List ℕ = overwrite m (bitmap_at G c) (set_slot (bitmap_of G c m) (slots G c) i) in
    with_generator (with_count set c (suc (count_of c m))) g
metadata_after G m (freed c i) =
    let cleared : List ℕ = overwrite m (bitmap_at G c) (clear_slot (bitmap_of G c m) (slots G c) i) in
    with_count cleared c (count_of c m - 1)
metadata_after G m (told value offset bytes) = m
metadata_after G m (shown v) = m

abbrev pub heap_after : Layout → List ℕ → List ℕ → Outcome → List ℕ
heap_after G m h (refused r) = h
heap_after G m h (allocated c i g) = h
heap_after G m h (freed c i) = overwrite h (slot_start G c i) (filled (canary_of m) (slot_size G c))
heap_after G m h (told value offset bytes) = overwrite h offset bytes
heap_after G m h (shown v) = h

-- what the caller is shown: nothing, but by a read
abbrev pub view_of : Outcome → View
view_of (refused r) = no_view
view_of (allocated c i g) = no_view
view_of (freed c i) = no_view
view_of (told value offset bytes) = no_view
view_of (shown v) = v
