-- `put_field` writes a number and then a byte.
use Prim.Native.Nat.{◌-◌}
use mathlib.Core.Path.{◌≡◌}
use borrow.Author.Tests.{le-leb}
use lib.ListN.{length}
use native.Mathlib.Omega.{arith}
use Rattle.decimal.specs.Decimal.{width, decimal}
use Rattle.writing.proofs.Writing.{Wrote, wrote_then, wrote_byte}
use Rattle.replay.proofs.put_field.Goals as goal

pub returns-clause-out_after : goal.returns-clause-out_after
returns-clause-out_after c =
    let a = c.args in
    let p = c.put-end in
    let room = le-leb width (length a.out.now - a.at) (omega arith) in
    let end = rw room at p.ensures.place.0 in
    let wrote = rw room at p.ensures.out_after in
    let kept : length p.new.out ≡ length a.out.now = p.auto.out in
    let number : Wrote a.out.now p.new.out a.at (decimal a.n) = record { bytes = wrote; room = omega arith } in
    let both = wrote_then number (wrote_byte p.new.out p.result a.mark (omega arith)) end in
    both.bytes
