-- An input that comes in pieces.
use Rattle.std.specs.Prelude.{ℕ, ◌*◌, ◌/◌, Bool, false, cond, List, [], ◌∷◌, ◌++◌, length, take, drop}
use Rattle.request.specs.Parse.{request_size}
use Rattle.rules.specs.Call.{State}
use Rattle.replay.specs.Batch.{Batch, behind, replay, requests}

-- how many of n bytes are served: those of whole requests, or all where the input has ended
abbrev pub ready_length : Bool → ℕ → ℕ
ready_length ended n = cond ended n (request_size * (n / request_size))

-- the bytes that are served, and those that are kept for the next piece
abbrev pub ready : Bool → List ℕ → List ℕ
ready ended bytes = take (ready_length ended (length bytes)) bytes

abbrev pub rest : Bool → List ℕ → List ℕ
rest ended bytes = drop (ready_length ended (length bytes)) bytes

-- all requests of some bytes, with an empty source, their lines numbered from a number on
abbrev pub replay_all : State → ℕ → List ℕ → Batch
replay_all s number bytes = replay [] (requests bytes) s number bytes

-- whole requests are served as their pieces come, what is kept goes before the next piece, and what is left at the end
-- is served
unfoldable pub replay_in : State → ℕ → List ℕ → List (List ℕ) → Batch
replay_in s number kept [] = replay_all s number kept
replay_in s number kept (piece ∷ more) =
    let b : Batch = replay_all s number (ready false (kept ++ piece)) in
    behind b.text (replay_in b.state b.next (rest false (kept ++ piece)) more)
