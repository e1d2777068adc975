-- The lines before `rest` are read.
use Rattle.std.proofs.Common.{length}
use Rattle.assembly.proofs.Assembled.{Assembled}
use Rattle.assembly.proofs.assemble_lines.Given as goal

abbrev pub invariant-loop-text : goal.invariant-loop-text
invariant-loop-text l =
    Assembled l.input l.number l.initial.out l.initial.errors l.out l.errors l.rest l.next l.requests l.messages

abbrev pub decreases-loop-text : goal.decreases-loop-text
decreases-loop-text l = length l.rest
