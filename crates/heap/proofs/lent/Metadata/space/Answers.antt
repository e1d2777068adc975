-- `Metadata::space` meets its contract: the object ends within the heap.
use Rattle.metadata.proofs.Stored.{part_bitmap}
use Rattle.heap.proofs.Live.{space_live}
use Rattle.heap.proofs.lent.Metadata.space.Goals as goal

pub returns-then-is_set : goal.returns-then-is_set
returns-then-is_set c =
    space_live _ _ _ c.requires (rw (part_bitmap _ _ c.part-part.ensures, c.part-part.ensures, c.locate-at.ensures) at c.is_set.ensures) c.if-is_set.true (rw (c.slot_size.ensures, c.locate-at.ensures))
