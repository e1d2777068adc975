-- What is kept of a line stays within, and no status is that of a failure.
use Rattle.std.proofs.Common.{◌≡◌, ◌⊎◌, ◌≤◌}
use Rattle.assembly.specs.Pieces.{longest_start}
use Rattle.program.specs.declared.Status.TheVariants.{Done, BadLines}
use Rattle.assemble.proofs.assemble_input.Given as goal

abbrev pub invariant-loop : goal.invariant-loop
invariant-loop g l = (l.kept ≤ longest_start) × ((l.status ≡ Done) ⊎ (l.status ≡ BadLines))
