-- `quoted` closes the quotes, and writes dots behind them where the word is longer.
use Rattle.std.proofs.Common.{refl}
use Rattle.quoting.proofs.Showing.{closed_whole, closed_start}
use Rattle.quoting.proofs.quoted.Goals as goal

pub returns-then-word-le-SHOWN : goal.returns-then-word-le-SHOWN
returns-then-word-le-SHOWN c =
    let p = c.push.ensures in
    let all = closed_whole c.args.word.now _ c.open-shown.ensures (p.text, p.len) c.if-word-le-SHOWN.true refl in
    record { text = all.0; front = all.1 }

pub returns-else-word-le-SHOWN : goal.returns-else-word-le-SHOWN
returns-else-word-le-SHOWN c =
    let p = c.push-else-word-le-SHOWN.ensures in
    let all = closed_start c.args.word.now _ c.open-shown.ensures (p.text, p.len) c.if-word-le-SHOWN.false refl in
    record { text = all.0; front = all.1 }
