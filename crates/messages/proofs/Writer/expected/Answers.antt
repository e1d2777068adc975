-- Each bad line has a text of its own.
use Rattle.line.specs.Text.{bytes}
use Rattle.messages.specs.Message.{expected}
use Rattle.messages.proofs.Writer.expected.Goals as goal

pub returns-in-Number-clause-put : goal.returns-in-Number-clause-put
unfolding bytes expected
returns-in-Number-clause-put c = rw c.in-Number.is c.text-in-Number.ensures.put

pub returns-in-TrailingText-clause-put : goal.returns-in-TrailingText-clause-put
unfolding bytes expected
returns-in-TrailingText-clause-put c = rw c.in-TrailingText.is c.text-in-TrailingText.ensures.put

pub returns-in-TooLong-clause-put : goal.returns-in-TooLong-clause-put
unfolding bytes expected
returns-in-TooLong-clause-put c = rw c.in-TooLong.is c.text-in-TooLong.ensures.put
