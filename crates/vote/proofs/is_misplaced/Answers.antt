-- Nothing is added or multiplied, and the tests come to the definition's.
use mathlib.Core.Path.{◌≡◌, ◌∙◌}
use Rattle.std.proofs.Common.{rules, ltb}
use Rattle.vote.proofs.Stepping.{asked, asked_misplaced}
use Rattle.vote.proofs.is_misplaced.Goals as goal

pub returns-then-lent-p : goal.returns-then-lent-p
returns-then-lent-p c =
    let a = c.args in
    let code : c.if-p-2.value ≡ asked a.lent a.still a.p a.room = search rules in
    code ∙ asked_misplaced a.lent a.still a.p a.room

pub returns-else-lent-p : goal.returns-else-lent-p
returns-else-lent-p c =
    let a = c.args in
    let code : ltb a.room a.p.len ≡ asked a.lent a.still a.p a.room = search rules in
    code ∙ asked_misplaced a.lent a.still a.p a.room
