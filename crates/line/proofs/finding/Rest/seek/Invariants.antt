-- The search from `at` has the whole search's answer.
use Rattle.std.proofs.Common.{◌≡◌}
use Rattle.line.specs.Text.{seek}
use Rattle.line.proofs.finding.Rest.seek.Given as goal

abbrev pub invariant-loop-at : goal.invariant-loop-at
invariant-loop-at l = seek l.self.text.now l.self.from l.blank ≡ seek l.self.text.now l.at l.blank
