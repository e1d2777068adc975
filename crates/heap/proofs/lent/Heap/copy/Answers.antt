-- `Heap::copy` meets its contract: the heap comes back with what the copy writes over its bytes at the offset.
use mathlib.Core.Path.{refl, sym, ◌∙◌}
use native.Mathlib.Omega.{arith}
use borrow.Author.Tests.{leb-false}
use Rattle.geometry.specs.Layout.{heap_length}
use Rattle.heap.proofs.Copying.{copied}
use Rattle.heap.proofs.Performing.{copy_metadata}
use Rattle.heap.proofs.lent.Heap.copy.Goals as goal

pub returns : goal.returns
returns c =
    let a = c.args in
    let fits = a.self.now.fits in
    let inside = leb-false (heap_length a.self.now.layout) a.offset (sym c.is_past.ensures ∙ c.if-is_past.false) in
    let room = rw (c.as_metadata.ensures.bytes, c.as_metadata.ensures.layout) at c.space.ensures in
    let done = copied a.self.now.layout a.self.now.metadata.now a.self.now.bytes.now a.offset a.kind a.source.now
    inside refl room.0 (omega (arith, fits, room)) c.write.ensures.0 c.write.ensures.1 in
    record {
      same = record { layout = refl; bytes = refl; metadata = refl };
      answers = done.0;
      metadata = copy_metadata _ _ _ _ _;
      heap = done.1;
    }
