-- A word is put as it is shown, and a line end after it.
use Rattle.std.proofs.Common.{sym, ◌∙◌, arith}
use borrow.Author.Tests.{eqb-false}
use Rattle.line.specs.Text.{bytes}
use Rattle.messages.proofs.Putting.{put_then, found_some}
use Rattle.messages.proofs.Writer.found.Goals as goal

pub returns-clause-put : goal.returns-clause-put
unfolding bytes
returns-clause-put c =
    let word = rw (c.bytes.ensures.bytes, c.quoted-shown.ensures.front.0) at c.text-2.ensures.put in
    let some = eqb-false _ _ (sym c.is_empty.ensures ∙ c.if-is_empty.false) in
    rw (found_some c.args.word.now some) (put_then word c.text-3.ensures.put (omega arith))
