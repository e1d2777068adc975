-- `agreements` meets its contract. The loop's invariant: the rows before this one are those of the table.
use mathlib.Core.Bool.{false}
use lib.ListN.{replicate}
use Rattle.vote.specs.Decide.{block_in, row}
use Rattle.elect.specs.Leader.{row_of}
use Rattle.elect.proofs.Tables.{Filled}
use Rattle.vote.proofs.compare.Voters.agreements.Given as goal

abbrev pub invariant-loop-i : goal.invariant-loop-i
invariant-loop-i l =
    let v = l.fn.self in
    Filled (row (row_of v.voting) (block_in v.outputs.now v.places)) (λ _. replicate 16 false) l.out l.i
