-- `Heap::perform` meets its contract: what an operation only reads, it leaves.
use mathlib.Core.Path.{refl, ◌∙◌}
use Rattle.heap.proofs.Performing.{remaining_heap, remaining_metadata, read_heap, read_metadata}
use Rattle.heap.proofs.lent.Heap.perform.Goals as goal

pub returns-in-Remaining : goal.returns-in-Remaining
returns-in-Remaining c =
    rw c.in-Remaining.is (record {
      same = record { layout = refl; bytes = refl; metadata = refl };
      answers = rw (c.as_metadata.ensures.bytes, c.as_metadata.ensures.layout) at c.remaining.ensures;
      metadata = remaining_metadata _ _ _;
      heap = remaining_heap _ _ _ _;
    })

pub returns-in-Read : goal.returns-in-Read
returns-in-Read c =
    rw c.in-Read.is (record {
      same = record { layout = refl; bytes = refl; metadata = refl };
      answers = c.answer.ensures ∙ rw (c.as_metadata-in-Read.ensures.bytes, c.as_metadata-in-Read.ensures.layout) at c.read.ensures.0;
      metadata = read_metadata _ _ _ _ _;
      heap = read_heap _ _ _ _ _ _;
    })
