-- `row` meets its contract. The loop's invariant: the entries before this one are those of the row.
use mathlib.Core.Bool.{false}
use Rattle.elect.specs.Leader.{row_of}
use Rattle.vote.specs.Groups.{together}
use Rattle.elect.proofs.Tables.{Filled}
use Rattle.vote.proofs.compare.Voters.row.Given as goal

abbrev pub invariant-loop-j : goal.invariant-loop-j
invariant-loop-j l = Filled (together (row_of l.self.voting) l.groups l.i) (λ _. false) l.out l.j
