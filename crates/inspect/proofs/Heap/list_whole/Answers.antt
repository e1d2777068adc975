-- `Heap::list_whole` meets its contract: the first look writes nothing, and what it counts tells whether all will fit.
use native.Mathlib.Omega.{arith}
use Rattle.search.proofs.Those.{those_few}
use Rattle.geometry.specs.Layout.{heap_length}
use Rattle.rules.specs.Inspect.{is_hit}
use Rattle.inspect.proofs.Heap.list_whole.Goals as goal

pub overflow_cast-result : goal.overflow_cast-result
overflow_cast-result c =
    let a = c.args.self.now in
    let few = those_few (is_hit a.layout a.metadata.now a.bytes.now) 0 (heap_length a.layout) in
    omega (arith, c.collect-wanted.ensures.0, a.fits.small, a.fits.heap, few)
