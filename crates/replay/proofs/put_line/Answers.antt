-- `put_line` writes three fields one after another.
use mathlib.Core.List.{◌++◌}
use lib.ListN.{length-append}
use native.Mathlib.Omega.{arith}
use Rattle.replay.specs.Line.{field}
use Rattle.writing.proofs.Writing.{Wrote, wrote_then}
use Rattle.replay.proofs.put_line.Goals as goal

pub returns : goal.returns
returns c =
    let a = c.args in
    let f = c.put_field-second in
    let g = c.put_field-third in
    let h = c.put_field in
    let first : Wrote a.out.now f.new.out 0 (field a.number 32) = record { bytes = f.ensures.out_after; room = omega arith } in
    let second : Wrote f.new.out g.new.out f.result (field a.reply.number 32) = record { bytes = g.ensures.out_after; room = omega arith } in
    let third : Wrote g.new.out h.new.out g.result (field a.reply.value 10) = record { bytes = h.ensures.out_after; room = omega arith } in
    let rest = wrote_then second third g.ensures.place.0 in
    let size = length-append (field a.number 32) (field a.reply.number 32 ++ field a.reply.value 10) in
    let size-rest = length-append (field a.reply.number 32) (field a.reply.value 10) in
    (omega arith, omega arith, (wrote_then first rest f.ensures.place.0).bytes)
