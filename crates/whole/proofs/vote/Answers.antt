-- `whole::vote` meets its contract: a refusal for numbers that are not allowed, else the vote through all blocks.
use mathlib.Core.Path.{refl, sym, ◌∙◌}
use Rattle.whole.specs.Whole.{whole}
use Rattle.whole.proofs.vote.Goals as goal

pub returns-then-is_invalid : goal.returns-then-is_invalid
unfolding whole
returns-then-is_invalid c = rw (sym c.is_invalid.ensures ∙ c.if-is_invalid.true, whole) (refl, refl)

pub returns : goal.returns
unfolding whole
returns c =
    rw (sym c.is_invalid.ensures ∙ c.if-is_invalid.false, whole) c.through.ensures
