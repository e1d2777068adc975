-- `Heap::allocate` meets its contract: where no class holds the size, and where a slot is taken.
use Prim.Native.Nat.{◌<◌, ◌≤◌, ◌/◌}
use mathlib.Core.Path.{◌≡◌, refl, ap, ◌∙◌}
use native.Mathlib.Omega.{arith}
use Rattle.metadata.proofs.Stored.{part_bitmap}
use Rattle.geometry.specs.Layout.{slots}
use Rattle.metadata.specs.Metadata.{count_of, generator_of}
use Rattle.rules.specs.Allocate.{found_in}
use Rattle.bitmap.specs.Bitmap.{set_slot}
use Rattle.heap.proofs.Part.{part_changed}
use Rattle.heap.proofs.Allocating.{too_large, slot_taken, taken_metadata}
use Rattle.heap.proofs.lent.Heap.allocate.Goals as goal

pub returns-then-class-ge-CLASSES : goal.returns-then-class-ge-CLASSES
returns-then-class-ge-CLASSES c =
    rw (too_large _ _ _ c.class_of-class.ensures c.if-class-ge-CLASSES.true)
    (record { same = record { layout = refl; bytes = refl; metadata = refl }; answers = refl; metadata = refl; heap = refl })

pub returns : goal.returns
returns c =
    let G = c.args.self.now.layout in
    let fits = c.args.self.now.fits in
    let m = c.args.self.now.metadata.now in
    let class = c.class_of-class.result in
    let of = c.part-part.ensures in
    let bits = part_bitmap G class of m in
    let has : c.part-part.result.slots ≡ slots G class = ap (λ p. p.slots) of in
    let seeds : c.generator.result ≡ generator_of m = rw c.as_metadata-metadata.ensures.bytes at c.generator.ensures in
    let found : c.find-found.result ≡ found_in G m class = rw (c.as_metadata-metadata.ensures.bytes, bits, has, seeds) at c.find-found.ensures in
    let counted : c.count-count.result ≡ count_of class m = rw c.as_metadata-metadata.ensures.bytes at c.count-count.ensures in
    let set = part_changed G class m (λ b n. set_slot b n c.find-found.result.slot) of fits.metadata c.set.ensures c.set.auto.bitmap in
    let two : 2 ≤ slots G class = omega (arith, has) in
    let few : count_of class m < slots G class / 2 = rw (has, counted) at c.if-part-count.false in
    let clear : (found_in G m class).slot < slots G class = rw (has, found) at c.if-part-found.false in
    rw (slot_taken G m c.args.size c.class_of-class.ensures (omega arith) two few clear) (record {
      same = record {
        layout = c.store.ensures.same.layout ∙ c.store_count.ensures.same.layout;
        bytes = c.store.ensures.same.bytes ∙ c.store_count.ensures.same.bytes;
        metadata = c.store.ensures.same.metadata ∙ c.store_count.ensures.same.metadata;
      };
      answers = rw (c.slot_start.ensures, found);
      metadata = taken_metadata G m class found counted set c.store_count.ensures.written c.store.ensures.written;
      heap = c.store.ensures.kept ∙ c.store_count.ensures.kept;
    })
