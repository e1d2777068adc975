-- `assemble` does one turn.
use Rattle.assembly.proofs.Turning.{a_turn}
use Rattle.assembly.proofs.assemble.Goals as goal

pub returns-clause-turn : goal.returns-clause-turn
returns-clause-turn c =
    let a = c.args in
    let g = c.gather-end.ensures in
    let e = c.assemble_lines-turn.ensures in
    a_turn a.input.now a.kept a.got a.number a.out.now a.errors.now (g.end, g.input_after) c.admitted_len-len.ensures
    e.turn.0 c.min.ensures c.shift-left.ensures (e.out_after, e.errors_after)
