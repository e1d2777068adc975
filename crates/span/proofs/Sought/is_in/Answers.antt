-- `Sought::is_in` meets its contract. The loop's invariant: it says whether the first byte sought was passed.
use Rattle.search.proofs.Blocks.{first_next}
use Rattle.span.specs.Pattern.{is_sought}
use Rattle.span.proofs.Sought.is_in.Goals as goal

pub loop-i-preserved : goal.loop-i-preserved
loop-i-preserved c =
    let a = c.args in
    let test = is_sought a.self.now.equal a.self.now.pattern.now a.place a.bytes.now a.at in
    rw c.loop-i.invariant (first_next test a.block c.loop-i.i c.loop-i-test.true)
