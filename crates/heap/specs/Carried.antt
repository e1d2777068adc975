-- What a function changes of the heap that it is lent, and what it leaves.
use Rattle.std.specs.Prelude.{ℕ, ◌≡◌, List, Result}
use Rattle.answer.specs.declared.Refusal.{Refusal}
use Rattle.answer.specs.Reply.{reply_of}
use Rattle.rules.specs.Outcome.{Outcome, reply, metadata_after, heap_after}
use Rattle.heap.specs.declared.lent.Heap.{Heap}

-- it is the same loan, so that its lender ends as it does, on the same layout
pub record IsSame (old new : Heap) : Type 0 where
  pub layout : new.layout ≡ old.layout
  pub bytes : new.bytes.ghost_name ≡ old.bytes.ghost_name
  pub metadata : new.metadata.ghost_name ≡ old.metadata.ghost_name

-- the metadata are these now, and the heap is as it was
pub record IsRewritten (old new : Heap) (m : List ℕ) : Type 0 where
  pub same : IsSame old new
  pub kept : new.bytes.now ≡ old.bytes.now
  pub written : new.metadata.now ≡ m

-- the answer, the metadata and the heap are those of an outcome
pub record IsCarried (old new : Heap) (answer : Result ℕ Refusal) (o : Outcome) : Type 0 where
  pub same : IsSame old new
  pub answers : reply_of answer ≡ reply old.layout o
  pub metadata : new.metadata.now ≡ metadata_after old.layout old.metadata.now o
  pub heap : new.bytes.now ≡ heap_after old.layout old.metadata.now old.bytes.now o
