-- `line `, the number and what was expected are put one after another.
use Rattle.std.proofs.Common.{arith}
use Rattle.line.specs.Text.{bytes}
use Rattle.messages.specs.Message.{said}
use Rattle.messages.proofs.Putting.{put_then}
use Rattle.messages.proofs.Writer.say.Goals as goal

pub returns-clause-put : goal.returns-clause-put
unfolding bytes said
returns-clause-put c =
    let rest = put_then c.number.ensures.put c.expected.ensures.put (omega arith) in
    put_then c.text.ensures.put rest (omega arith)
