-- Where there is room, all requests that are ready are served, and what is left stays at the front of the input.
use Prim.Native.Nat.{ℕ, zero, suc, ◌+◌, ◌-◌, ◌≤◌}
use native.Mathlib.Nat.{sub-zero}
use native.Mathlib.Omega.{arith}
use mathlib.Core.Path.{◌≡◌, ◌∙◌}
use mathlib.Core.Bool.{Bool}
use mathlib.Core.List.{List, [], ◌++◌}
use lib.ListN.{length, take, drop, length-take, length-drop}
use Rattle.writing.specs.Overwrite.{overwrite}
use Rattle.writing.proofs.Parts.{front_written}
use Rattle.request.specs.Parse.{request_size}
use Rattle.rules.specs.Serve.{lent}
use Rattle.rules.specs.Call.{State, state_after}
use Rattle.replay.specs.Batch.{replay, requests, batch_of}
use Rattle.pieces.specs.Pieces.{ready, rest, replay_all}
use Rattle.pieces.proofs.Cutting.{batch_all}
use Rattle.benchrun.specs.Replay.{input_room, most_requests, Room}

-- k requests have k numbers
replay_next : (k : ℕ) (s : State) (number : ℕ) (input : List ℕ) → (replay [] k s number input).next ≡ number + k
unfolding replay
replay_next zero s number input = omega arith
replay_next (suc k) s number input =
    let request : List ℕ = take request_size input in
    replay_next k (state_after s request (lent [])) (number + 1) (drop request_size input) ∙ omega arith

module _ {input out : List ℕ} {end number : ℕ} (room : Room input out end number) (ended : Bool) where
  few_ready : requests (ready ended (take end input)) ≤ most_requests
  few_ready =
      let some : length (take end input) ≤ input_room = rw length-take (omega arith) in
      let less : length (ready ended (take end input)) ≤ input_room = rw length-take (omega arith) in
      omega arith

  pub all_served : (s : State)
      → batch_of [] (length out) s number (ready ended (take end input)) ≡ replay_all s number (ready ended (take end input))
  all_served s =
      let few = few_ready in
      batch_all (length out) number s (ready ended (take end input)) (omega arith) (omega arith)

  pub next_within : (s : State) → (replay_all s number (ready ended (take end input))).next ≤ number + most_requests
  next_within s = rw replay_next (omega (arith, few_ready))

  pub rest_kept : {front : List ℕ} → front ≡ overwrite (take end input) 0 (rest ended (take end input))
      → front ++ drop (end - 0) input ≡ overwrite input 0 (rest ended (take end input))
  rest_kept e =
      let short : length (rest ended (take end input)) ≤ end = simp (length-drop, length-take) (omega arith) in
      rw (sub-zero, e) (front_written end input 0 (rest ended (take end input)) (omega arith) room.held)
