-- `replaced` meets its contract. The loop's invariant: the entries passed are replaced.
use lib.ListN.{get_or}
use Rattle.elect.specs.Leader.{instead}
use Rattle.elect.proofs.Tables.{Filled}
use Rattle.elect.proofs.replaced.Given as goal

abbrev pub invariant-loop-j : goal.invariant-loop-j
invariant-loop-j l = Filled (λ j. instead l.old l.new (get_or l.groups j 0)) (λ _. 0) l.out l.j
