-- `heap::read` meets its contract: the bytes of the view that was found, where they lie.
use mathlib.Core.Path.{◌∙◌}
use Rattle.heap.proofs.Viewing.{all_shown}
use Rattle.heap.proofs.read.Goals as goal

pub returns : goal.returns
returns c =
    let a = c.args in
    let found = c.shown.ensures ∙ c.look-looked.ensures.1 in
    all_shown a.heap.now a.metadata.now a.offset a.count a.page.now a.heap.ref_ptr a.page.ref_ptr found
    c.bytes.ensures.0 c.bytes.ensures.1
