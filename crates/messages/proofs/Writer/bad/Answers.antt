-- What was expected is said, and after it the word that is found, if any.
use Rattle.std.proofs.Common.{◌≡◌, ⊎_elim, arith}
use mathlib.Core.List.{append-nil}
use Rattle.line.specs.Text.{word_bytes}
use Rattle.messages.specs.Message.{found, found_text}
use Rattle.messages.proofs.Putting.{put_then}
use Rattle.messages.proofs.Writer.bad.Goals as goal

pub returns-in-TooLong-clause-put : goal.returns-in-TooLong-clause-put
unfolding found_text
returns-in-TooLong-clause-put c =
    rw (c.in-TooLong.is, append-nil) (rw c.in-TooLong.is at c.say.ensures.put)

pub returns-in-Operation-clause-put : goal.returns-in-Operation-clause-put
unfolding found_text
returns-in-Operation-clause-put c =
    let a = c.args in
    let f = rw c.word_bytes.ensures.1 at c.found.ensures.put in
    let w : found_text a.line.now a.bad ≡ found (word_bytes a.line.now c.in-Operation.word) =
    ⊎_elim (λ e. rw e) (⊎_elim (λ e. rw e) (λ e. rw e)) c.in-Operation.is in
    rw w (put_then c.say.ensures.put f (omega arith))
