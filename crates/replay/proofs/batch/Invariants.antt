-- The requests that the iterator still has are left.
use Rattle.std.proofs.Common.{◌≡◌}
use Rattle.std.specs.Slice.Iter.{chunks_rest, chunks_size}
use Rattle.request.specs.Parse.{request_size}
use Rattle.replay.proofs.Replayed.{Replayed}
use Rattle.replay.proofs.batch.Given as goal

abbrev pub invariant-loop-request : goal.invariant-loop-request
invariant-loop-request l =
    record {
      next : (goal.iterator-loop-request).can_next l.request-iterator;
      finite : (goal.iterator-loop-request).is_finite l.request-iterator;
      cut : chunks_size l.request-iterator ≡ request_size;
      replayed : Replayed l.source (record { heap = l.initial.heap; metadata = l.initial.metadata }) l.number l.input l.initial.out
          (record { heap = l.heap; metadata = l.metadata }) l.out (chunks_rest l.request-iterator) l.done.next l.done.written;
    }
