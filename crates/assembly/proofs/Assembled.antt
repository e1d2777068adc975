-- An input assembled line by line.
use Prim.Native.Nat.{ℕ, ◌+◌, ◌-◌, ◌*◌, ◌^◌, ◌≤◌, ◌<◌}
use native.Mathlib.Omega.{arith}
use borrow.Author.Tests.{le-leb}
use mathlib.Core.Path.{◌≡◌, sym, ◌∙◌}
use mathlib.Core.List.{List, [], ◌∷◌, ◌++◌, append_assoc, append-nil}
use lib.ListN.{length, length-append}
use Rattle.writing.proofs.Writing.{overwrite_length}
use Rattle.request.specs.Parse.{request_size}
use Rattle.line.specs.Line.{Read, read_line, request_of}
use Rattle.messages.specs.Put.{Put}
use Rattle.messages.specs.Message.{message_room, message_within}
use Rattle.assembly.specs.Batch.{lines, unended, requests_of, messages_of, requests_in, messages_in}
use Rattle.assembly.specs.Batch.{turn_of}
use Rattle.assembly.specs.declared.Turn.{Turn}
use Rattle.messages.proofs.Putting.{two_put}

-- of all that is to be written at the front of a buffer, the part before place n is
pub record Filled (out₀ out : List ℕ) (n : ℕ) (all left : List ℕ) : Type 0 where
  pub part : List ℕ
  pub put : Put out₀ 0 part n out
  pub room : length part ≤ length out₀
  pub split : all ≡ part ++ left

module _ {out₀ out : List ℕ} {n : ℕ} {all left : List ℕ} (f : Filled out₀ out n all left) where
  pub filled_length : length out ≡ length out₀
  filled_length = rw f.put.bytes (overwrite_length out₀ 0 f.part (omega (arith, f.room)))

  pub filled_more : {text more out₁ : List ℕ} {r : ℕ} → left ≡ text ++ more → Put out n text r out₁ → r ≤ length out
      → Filled out₀ out₁ r all more
  filled_more {text} e p small =
      let size = filled_length in
      let here = f.put.place in
      let end = p.place in
      record {
        part = f.part ++ text;
        put = two_put f.put p (omega arith);
        room = rw length-append (omega arith);
        split = f.split ∙ rw e (sym (append_assoc f.part _ _));
      }

  pub filled_all : left ≡ [] → Put out₀ 0 all n out
  filled_all e = rw (f.split, e, append-nil) f.put

-- all lines before `rest` are read, and their requests and messages written; the next line has the number `next`
pub record Assembled (input : List ℕ) (number : ℕ) (out₀ errors₀ out errors rest : List ℕ) (next filled said : ℕ) : Type 0 where
  pub requests : Filled out₀ out filled (requests_in input) (requests_in rest)
  pub messages : Filled errors₀ errors said (messages_in number input) (messages_in next rest)
  pub lines_rest : number + length (lines input) ≡ next + length (lines rest)
  pub text_rest : unended input ≡ unended rest
  pub within : length rest ≤ length input
  pub requests_room : filled + length rest * request_size ≤ length out
  pub messages_room : said + length rest * message_room ≤ length errors
  pub numbers : next + length rest < 2 ^ 64

module _ {input : List ℕ} {number : ℕ} {out₀ errors₀ out errors rest : List ℕ} {next filled said : ℕ}
    (p : Assembled input number out₀ errors₀ out errors rest next filled said) where
  -- one line more is read
  pub assembled_more : {text more : List ℕ} {read : Read} {r m : ℕ} {out₁ errors₁ : List ℕ}
      → (lines rest ≡ text ∷ lines more) × (unended rest ≡ unended more) × (length rest ≡ length text + (1 + length more))
      → read ≡ read_line text
      → r ≤ filled + request_size → Put out filled (request_of read) r out₁
      → m ≤ said + message_room → Put errors said (message_within (length errors - said) next text read) m errors₁
      → Assembled input number out₀ errors₀ out₁ errors₁ more (next + 1) r m
  unfolding requests_of messages_of
  assembled_more {more = more} (split, left, size) e small put small' within =
      let put' = rw (le-leb message_room (length errors - said) (omega arith)) at within in
      let requests = filled_more p.requests {more = requests_in more} (rw (split, e)) put (omega arith) in
      let messages = filled_more p.messages {more = messages_in (next + 1) more} (rw (split, e)) put' (omega arith) in
      let kept = filled_length p.requests ∙ sym (filled_length requests) in
      let kept' = filled_length p.messages ∙ sym (filled_length messages) in
      record {
        requests = requests;
        messages = messages;
        lines_rest = p.lines_rest ∙ rw split (omega arith);
        text_rest = p.text_rest ∙ left;
        within = omega (arith, p.within);
        requests_room = omega arith;
        messages_room = omega arith;
        numbers = omega arith;
      }

  -- all lines are read
  module _ (none : (lines rest ≡ []) × (unended rest ≡ rest)) where
    pub all_requests : Put out₀ 0 (requests_in input) filled out
    unfolding requests_of
    all_requests = filled_all p.requests (rw none.0)

    pub all_messages : Put errors₀ 0 (messages_in number input) said errors
    unfolding messages_of
    all_messages = filled_all p.messages (rw none.0)

    pub all_done : ◌≡◌ {A = Turn} (record { kept = length rest; next = next; requests = filled; messages = said })
        (turn_of number input)
    unfolding turn_of
    all_done =
        let kept : length (unended input) ≡ length rest = rw (p.text_rest, none.1) in
        let after : number + length (lines input) ≡ next = p.lines_rest ∙ rw none.0 (omega arith) in
        let written : length (requests_in input) ≡ filled = omega (arith, all_requests.place) in
        let told : length (messages_in number input) ≡ said = omega (arith, all_messages.place) in
        rw (kept, after, written, told)
