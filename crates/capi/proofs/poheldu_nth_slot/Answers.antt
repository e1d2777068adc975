-- `capi::poheldu_nth_slot` meets its contract.
use mathlib.Core.Path.{sym}
use Rattle.judge.proofs.Judging.{laid_fits}
use Rattle.capi.proofs.poheldu_nth_slot.Goals as goal

pub numbered-requires : goal.numbered-requires
numbered-requires c =
    (laid_fits _ _ (sym c.in-Ok.ensures)).1.small
