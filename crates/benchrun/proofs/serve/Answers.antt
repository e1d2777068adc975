-- `serve` serves all requests that are ready, and keeps the rest.
use mathlib.Core.Bool.{Bool}
use lib.Dec.{eqb}
use native.Mathlib.Nat.{sub-zero}
use native.Mathlib.Omega.{arith}
use Rattle.rules.specs.Call.{State, state_of}
use Rattle.benchrun.proofs.Serving.{all_served, next_within, rest_kept}
use Rattle.benchrun.proofs.serve.Goals as goal

pub returns-clause-replayed : goal.returns-clause-replayed
returns-clause-replayed c =
    let s : State = state_of c.args.heap.now c.args.metadata.now in
    let ended : Bool = eqb c.args.got.count 0 in
    let served = rw (sub-zero, c.ended.ensures, all_served c.requires ended s) at c.serve.ensures.replayed in
    let kept = rw (sub-zero, c.ended.ensures) at c.serve.ensures.kept in
    let left = rest_kept c.requires ended (rw (sub-zero, c.ended.ensures) at c.serve.ensures.input_after) in
    (served.0, kept, served.1, served.2, left, served.3)

pub returns-clause-numbered : goal.returns-clause-numbered
returns-clause-numbered c =
    let s : State = state_of c.args.heap.now c.args.metadata.now in
    let ended : Bool = eqb c.args.got.count 0 in
    let served = rw (sub-zero, c.ended.ensures, all_served c.requires ended s) at c.serve.ensures.replayed in
    omega (arith, served.1, next_within c.requires ended s)
