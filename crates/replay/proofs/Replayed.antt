-- A batch served request by request.
use Prim.Native.Nat.{ℕ, suc, ◌+◌, ◌*◌, ◌-◌, ◌^◌, ◌≤◌, ◌<◌, min}
use native.Mathlib.Decide.{dec_lt}
use native.Mathlib.Omega.{arith}
use mathlib.Core.Path.{◌≡◌, refl, ap, ◌∙◌}
use mathlib.Core.Bool.{true}
use mathlib.Core.List.{List, [], ◌++◌, append_assoc, append-nil}
use lib.ListN.{length, take, drop, length-append, drop_of_length-le}
use lib.Seq.{take_all, take_at, drop_at}
use Rattle.std.proofs.lemmas.Grind.{common_steps}
use borrow.Author.Tests.{le-leb, lt-ltb}
use Rattle.writing.specs.Overwrite.{overwrite}
use Rattle.std.proofs.lemmas.List.{nil_from_length}
use Rattle.request.specs.Parse.{request_size}
use Rattle.replay.specs.Line.{line_room, line_for}
use Rattle.rules.specs.Serve.{lent}
use Rattle.rules.specs.Call.{State, state_of, state_after}
use Rattle.replay.specs.Batch.{Batch, behind, replay, requests, accepts, accepted, batch_of}
use Rattle.writing.proofs.Writing.{Wrote, wrote_then, wrote_from, wrote_length}

-- a batch serves all requests where there is room for their lines and for their numbers
pub accepted_all : (room number : ℕ) (input : List ℕ) → requests input * line_room ≤ room → number + requests input < 2 ^ 64
    → requests input ≡ accepted room number input
accepted_all room number input h l = rw (le-leb (requests input * line_room) room h, lt-ltb (number + requests input) (2 ^ 64) l)

-- one text before another
pub behind_both : (x y : List ℕ) (b : Batch) → behind x (behind y b) ≡ behind (x ++ y) b
behind_both x y b = rw append_assoc

-- a request is taken off the front of what is left
module _ (request more : List ℕ) (size : length request ≡ min request_size (length request + length more)) where
  first_of : take request_size (request ++ more) ≡ request
  first_of = elim (dec_lt (length request) request_size) [
    | yes h ↦
        let none : more ≡ [] = nil_from_length more (omega arith) in
        rw (none, append-nil) (take_all request_size request (omega arith))
    | no h ↦ take_at request more request_size (omega arith)
  ]

  rest_of : drop request_size (request ++ more) ≡ more
  rest_of = elim (dec_lt (length request) request_size) [
    | yes h ↦
        let none : more ≡ [] = nil_from_length more (omega arith) in
        let few : length request ≤ request_size = omega arith in
        rw (none, append-nil) (drop_of_length-le request few)
    | no h ↦ drop_at request more request_size (omega arith)
  ]

  module _ (some : 0 < length request + length more) where
    one_less : requests (request ++ more) ≡ suc (requests more)
    one_less = rw length-append (omega arith)

    replay_more : (source : List ℕ) (now : State) (next : ℕ)
        → replay source (requests (request ++ more)) now next (request ++ more)
        ≡ behind (line_for now request source next) (replay source (requests more) (state_after now request (lent source)) (next + 1) more)
    unfolding replay
    replay_more source now next = rw (one_less, first_of, rest_of)

-- part of a batch is served and `text` written: the requests of `left` are left, numbered from `next` on
pub record Replayed (source : List ℕ) (before : State) (number : ℕ) (input out₀ : List ℕ) (now : State) (out left : List ℕ)
    (next written : ℕ) : Type 0 where
  pub text : List ℕ
  pub wrote : Wrote out₀ out 0 text
  pub size : written ≡ length text
  pub rest : batch_of source (length out₀) before number input ≡ behind text (replay source (requests left) now next left)
  pub room : written + requests left * line_room ≤ length out
  pub numbers : next + requests left < 2 ^ 64
  pub out_kept : length out ≡ length out₀
  pub heap_kept : length now.heap ≡ length before.heap
  pub metadata_kept : length now.metadata ≡ length before.metadata

module _ {source : List ℕ} {before : State} {number : ℕ} {input out₀ : List ℕ} where
  -- nothing is served yet
  pub replayed_none : accepts (length out₀) number input ≡ true → Replayed source before number input out₀ before out₀ input number 0
  replayed_none e =
      record {
        text = [];
        wrote = record { bytes = refl; room = omega arith };
        size = refl;
        rest = rw e;
        room = grind (arith, common_steps);
        numbers = grind (arith, common_steps);
        out_kept = refl;
        heap_kept = refl;
        metadata_kept = refl;
      }

  module _ {now : State} {out left : List ℕ} {next written : ℕ} (p : Replayed source before number input out₀ now out left next written) where
    -- all is served
    pub replayed_all : length left ≡ 0
        → batch_of source (length out₀) before number input ≡ record { text = p.text; state = now; next = next }
    unfolding replay
    replayed_all h =
        let none : requests left ≡ 0 = omega arith in
        p.rest ∙ rw (none, append-nil)

    -- one request more is served, and its line written
    pub replayed_more : (request more : List ℕ) → left ≡ request ++ more → length request ≡ min request_size (length left) → 0 < length left
        → {r : ℕ} {w heap metadata : List ℕ}
        → let line = line_for now request source next in
        r ≡ length line → r ≤ line_room → w ≡ overwrite (take (length out - written) (drop written out)) 0 line
        → state_of heap metadata ≡ state_after now request (lent source)
        → length metadata ≡ length now.metadata → length heap ≡ length now.heap
        → Replayed source before number input out₀ (record { heap = heap; metadata = metadata })
        (take written out ++ (w ++ drop (length out - written) (drop written out))) more (next + 1) (written + r)
    replayed_more request more cut size some {r} {w} {heap} {metadata} e small bytes state m h =
        let line : List ℕ = line_for now request source next in
        let lengths : length left ≡ length request + length more = ap length cut ∙ length-append request more in
        let part : length request ≡ min request_size (length request + length more) = rw lengths at size in
        let fewer : requests left ≡ suc (requests more) = omega arith in
        let one = wrote_from out line written bytes (omega arith) in
        let all = wrote_then p.wrote one (omega arith) in
        record {
          text = p.text ++ line;
          wrote = all;
          size = rw (length-append, e, p.size);
          rest =
              p.rest
              ∙ rw (cut, replay_more request more part (omega arith) source now next, state)
              (behind_both p.text line _);
          room = omega (arith, wrote_length all);
          numbers = omega arith;
          out_kept = wrote_length all;
          heap_kept = omega arith;
          metadata_kept = omega arith;
        }
