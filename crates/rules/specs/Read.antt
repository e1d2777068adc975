-- Reading an object where it lies.
use Rattle.std.specs.Prelude.{ℕ, List, [], ◌∷◌}
use Rattle.geometry.specs.declared.Layout.{Layout}
use Rattle.answer.specs.Checks.{checked}
use Rattle.view.specs.View.{within}
use Rattle.rules.specs.Outcome.{Outcome, refused, shown}
use Rattle.rules.specs.Object.{if_past, space}

unfoldable pub read : Layout → List ℕ → ℕ → ℕ → ℕ → Outcome
read G m offset count page_bytes =
    checked refused (if_past G offset ∷ []) (shown (within offset (space G m offset) count page_bytes))
