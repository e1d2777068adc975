-- `admit` meets its contract: metadata whose length was judged right has its fields.
use mathlib.Core.Path.{sym, ◌∙◌}
use Rattle.judge.proofs.Judging.{laid_fits}
use Rattle.judge.proofs.Admitting.{has_fields}
use Rattle.judge.proofs.admit.Goals as goal

pub any_over-requires : goal.any_over-requires
any_over-requires c = has_fields _ (laid_fits _ _ (sym c.lengths.ensures ∙ c.in_ok-layout.was)).1
