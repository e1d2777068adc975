-- `Heap::store_word` meets its contract: what is stored in the fields is stored in the metadata.
use mathlib.Core.Path.{refl}
use Rattle.geometry.specs.Layout.{header}
use Rattle.judge.proofs.Admitting.{has_fields}
use Rattle.words.proofs.Stored.{front_put}
use Rattle.heap.proofs.lent.Heap.store_word.Goals as goal

pub returns : goal.returns
returns c =
    let a = c.args in
    record {
      same = record { layout = refl; bytes = refl; metadata = refl };
      kept = refl;
      written = rw c.put.ensures (front_put a.self.now.metadata.now header a.at a.n c.requires (has_fields _ a.self.now.fits));
    }
