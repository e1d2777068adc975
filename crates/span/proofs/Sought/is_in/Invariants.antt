-- `Sought::is_in` meets its contract. The loop's invariant: it says whether the first byte sought was passed.
use mathlib.Core.Path.{◌≡◌}
use lib.Dec.{ltb}
use Rattle.search.specs.First.{first}
use Rattle.span.specs.Pattern.{is_sought}
use Rattle.span.proofs.Sought.is_in.Given as goal

abbrev pub invariant-loop-i : goal.invariant-loop-i
invariant-loop-i l =
    l.found ≡ ltb (first (is_sought l.self.equal l.self.pattern.now l.place l.bytes l.at) 0 l.block) l.i
