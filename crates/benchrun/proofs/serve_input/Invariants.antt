-- Fewer bytes are kept than a request has, and each read has had its share of the line numbers.
use Rattle.std.proofs.Common.{◌+◌, ◌*◌, ◌<◌, ◌≤◌}
use Rattle.request.specs.Parse.{request_size}
use Rattle.benchrun.specs.Replay.{first_number, most_requests}
use Rattle.benchrun.proofs.serve_input.Given as goal

abbrev pub invariant-loop : goal.invariant-loop
invariant-loop g l = (l.served.kept < request_size) × (l.served.next ≤ first_number + most_requests * l.counter)
