-- `Heap::free` meets its contract: the slot ends within the heap, and comes back filled.
use Prim.Native.Nat.{◌<◌}
use mathlib.Core.Path.{◌≡◌, sym, ap, ◌∙◌}
use native.Mathlib.Omega.{arith}
use borrow.Author.Tests.{leb-false}
use lib.ListN.{length}
use Rattle.geometry.specs.Layout.{heap_length, slots}
use Rattle.metadata.specs.Metadata.{count_of, canary_of}
use Rattle.rules.specs.Object.{is_live}
use Rattle.bitmap.specs.Bitmap.{clear_slot}
use Rattle.metadata.proofs.Stored.{part_bitmap}
use Rattle.heap.proofs.Part.{part_changed}
use Rattle.heap.proofs.Freeing.{slot_freed, slot_inside, freed_metadata, freed_heap}
use Rattle.heap.proofs.lent.Heap.free.Goals as goal

pub slice_bounds-fill-end : goal.slice_bounds-fill-end
slice_bounds-fill-end c =
    let fits = c.args.self.now.fits in
    let inside = slot_inside _ _ c.locate-at.ensures (omega arith) (rw c.slots.ensures.0 at c.if-slots-at.false) in
    let kept = ap length c.store_count.ensures.kept in
    omega (arith, fits, inside, c.slot_size-size.ensures, kept)

pub returns : goal.returns
returns c =
    let G = c.args.self.now.layout in
    let m = c.args.self.now.metadata.now in
    let fits = c.args.self.now.fits in
    let l = c.locate-at.result in
    let of = c.part-part.ensures in
    let at = c.locate-at.ensures in
    let inside = leb-false (heap_length G) c.args.offset (sym c.is_past.ensures ∙ c.if-is_past.false) in
    let start : l.into ≡ 0 = omega arith in
    let within : l.slot < slots G l.class = rw c.slots.ensures.0 at c.if-slots-at.false in
    let tested : c.is_set.result ≡ is_live G m l = rw (c.as_metadata-metadata.ensures.bytes, part_bitmap G l.class of m, of) at c.is_set.ensures in
    let counted : c.count-count.result ≡ count_of l.class m = rw c.as_metadata-metadata.ensures.bytes at c.count-count.ensures in
    let canary : c.canary-canary.result ≡ canary_of m = rw c.as_metadata-metadata.ensures.bytes at c.canary-canary.ensures in
    let kept = c.store_count.ensures.kept in
    let same = c.store_count.ensures.same in
    let cleared = part_changed G l.class m (λ b n. clear_slot b n l.slot) of fits.metadata c.clear.ensures c.clear.auto.bitmap in
    rw (slot_freed G c.args.offset at start within m inside (rw tested at c.if-not-is_set.false) (λ e. c.if-count-eq0.false (counted ∙ e))) (record {
      same = record { layout = same.layout; bytes = same.bytes; metadata = same.metadata };
      answers = rw c.slot_size-size.ensures;
      metadata = freed_metadata G c.args.offset at start within m counted cleared c.store_count.ensures.written;
      heap = rw kept (freed_heap G c.args.offset at start within m c.args.self.now.bytes.now fits.heap c.slot_size-size.ensures canary (rw kept at c.fill.ensures));
    })
