-- However an input is cut into pieces, its requests are served as they are from the whole.
use Prim.Native.Nat.{ℕ, zero, suc, ◌+◌, ◌*◌, ◌/◌, ◌^◌, ◌≤◌, ◌<◌}
use native.Mathlib.Nat.{zero-add, suc-add}
use native.Mathlib.Omega.{arith}
use mathlib.Core.Path.{◌≡◌, sym, ap, ◌∙◌}
use mathlib.Core.Bool.{false}
use mathlib.Core.List.{List, [], ◌∷◌, ◌++◌, append_assoc, append-nil, flatten}
use lib.ListN.{length, take, drop, length-append, length-take, length-drop, take-append-drop}
use lib.Seq.{take-append-le, drop-append-le}
use Rattle.std.proofs.lemmas.List.{nil_from_length}
use Rattle.request.specs.Parse.{request_size}
use Rattle.rules.specs.Serve.{lent}
use Rattle.rules.specs.Call.{State, state_after}
use Rattle.replay.specs.Line.{line_room, line_for}
use Rattle.replay.specs.Batch.{Batch, behind, replay, requests, batch_of}
use Rattle.pieces.specs.Pieces.{ready, rest, replay_all, replay_in}
use Rattle.replay.proofs.Replayed.{accepted_all, behind_both}

-- k whole requests, and j after them
module _ (b : List ℕ) (j : ℕ) where
  module _ (k : ℕ) (a : List ℕ) (e : length a ≡ request_size * suc k) where
    first : take request_size (a ++ b) ≡ take request_size a
    first = take-append-le request_size a b (omega arith)

    later : drop request_size (a ++ b) ≡ drop request_size a ++ b
    later = drop-append-le request_size a b (omega arith)

    fewer : length (drop request_size a) ≡ request_size * k
    fewer = rw length-drop (omega arith)

  replay_append : (k : ℕ) (a : List ℕ) (s : State) (number : ℕ) → length a ≡ request_size * k
      → let x = replay [] k s number a in
      replay [] (k + j) s number (a ++ b) ≡ behind x.text (replay [] j x.state x.next b)
  unfolding replay
  replay_append zero a s number e = rw (nil_from_length a e, zero-add)
  replay_append (suc k) a s number e =
      let more = replay_append k (drop request_size a) (state_after s (take request_size a) (lent [])) (number + 1) (fewer k a e) in
      rw (suc-add, first k a e, later k a e, more) (behind_both (line_for s (take request_size a) [] number) _ _)

-- whole requests, and any bytes after them
replay_parts : (k : ℕ) (a b : List ℕ) → length a ≡ request_size * k → (s : State) (number : ℕ)
    → let x = replay_all s number a in
    replay_all s number (a ++ b) ≡ behind x.text (replay_all x.state x.next b)
replay_parts k a b whole s number =
    let count : requests a ≡ k = omega arith in
    let counts : requests (a ++ b) ≡ k + requests b = rw length-append (omega arith) in
    rw (counts, count) (replay_append b (requests b) k a s number whole)

-- a piece after what was kept: what is ready of both, and what is kept with all that comes later
replay_in_lem : (pieces : List (List ℕ)) (s : State) (number : ℕ) (kept : List ℕ)
    → replay_in s number kept pieces ≡ replay_all s number (kept ++ flatten pieces)
unfolding replay_in flatten
replay_in_lem [] s number kept = rw append-nil
replay_in_lem (piece ∷ more) s number kept =
    let both : List ℕ = kept ++ piece in
    let whole : length (ready false both) ≡ request_size * (length both / request_size) = rw length-take (omega arith) in
    let b : Batch = replay_all s number (ready false both) in
    let cut : kept ++ (piece ++ flatten more) ≡ ready false both ++ (rest false both ++ flatten more) =
    sym (append_assoc kept piece _) ∙ rw (← append_assoc, take-append-drop) in
    ap (behind b.text) (replay_in_lem more b.state b.next (rest false both))
    ∙ sym (ap (replay_all s number) cut ∙ replay_parts (length both / request_size) (ready false both) _ whole s number)

-- however an input is cut, its lines and the state after it are those of the whole
pub however_cut : (pieces : List (List ℕ)) (s : State) (number : ℕ)
    → replay_in s number [] pieces ≡ replay_all s number (flatten pieces)
however_cut pieces s number = replay_in_lem pieces s number []

-- where there is room for the lines and for their numbers, a batch serves all requests
pub batch_all : (room number : ℕ) (s : State) (bytes : List ℕ) → requests bytes * line_room ≤ room
    → number + requests bytes < 2 ^ 64
    → batch_of [] room s number bytes ≡ replay_all s number bytes
batch_all room number s bytes lines numbers = rw (← accepted_all room number bytes lines numbers)
