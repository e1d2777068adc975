-- The next replica leads, or who led leads on.
use native.Mathlib.Omega.{arith}
use mathlib.Core.Path.{◌≡◌, ◌∙◌, ap}
use mathlib.Core.List.{[]}
use lib.ListN.{get_or, length-take}
use lib.Seq.{get_or-take}
use Rattle.elect.specs.Leader.{votes}
use Rattle.elect.proofs.Leading.{led_none, led_new, led_old}
use Rattle.elect.proofs.winner.Goals as goal
use Rattle.elect.proofs.winner.Goals.{then-top-votes, else-top-votes}

pub loop-i-preserved : goal.loop-i-preserved
loop-i-preserved c =
    let own : c.votes-votes.result ≡ votes (get_or c.args.table c.loop-i.i []) =
    c.votes-votes.ensures ∙ ap votes (get_or-take c.max.result c.args.table c.loop-i.i [] (omega arith)) in (
      elim c.if-top-votes.branch [
        | then-top-votes w ↦ rw (w.best-is, w.top-is) (led_new c.loop-i.invariant.0 own w.if-top-votes.true)
        | else-top-votes w ↦ rw (w.best-is, w.top-is) (led_old c.loop-i.invariant.0 own w.if-top-votes.false)
      ],
      c.loop-i.invariant.1,
    )

pub loop-i-init : goal.loop-i-init
loop-i-init c = (led_none, omega (arith, length-take c.max.result c.args.table))
