-- One read of an input, and what it comes to.
use Rattle.std.specs.Prelude.{ℕ, ◌+◌, min, cond, List, length, take, set, eqb}
use Rattle.writing.specs.Overwrite.{overwrite}
use Rattle.assembly.specs.Batch.{newline, requests_in, messages_in, turn_of, admitted}
use Rattle.assembly.specs.Pieces.{start_of}
use Rattle.assembly.specs.declared.Turn.{Turn}

-- a buffer of which `kept` bytes were there before and the `got` bytes after them were read; where none were, the line
-- end that the last line may lack
unfoldable pub gathered : List ℕ → ℕ → ℕ → List ℕ
gathered input kept got = cond (eqb got 0) (set input kept newline) input

-- how many of its bytes are text
unfoldable pub text_end : ℕ → ℕ → ℕ → ℕ
text_end size kept got = min size (kept + cond (eqb got 0) 1 got)

-- the text
abbrev pub text_in : List ℕ → ℕ → ℕ → List ℕ
text_in input kept got = take (text_end (length input) kept got) (gathered input kept got)

-- what a turn answers, and what it leaves in the buffers
pub record Taken : Type 0 where
  pub turn : Turn
  pub input : List ℕ
  pub out : List ℕ
  pub errors : List ℕ

-- the text is read, and the start of its unfinished line put at the front of the input
unfoldable pub assemble : List ℕ → ℕ → ℕ → ℕ → List ℕ → List ℕ → Taken
assemble input kept got number out errors =
    let text : List ℕ = admitted (text_in input kept got) number (length out) (length errors) in
    let done : Turn = turn_of number text in
    let start : List ℕ = start_of text in
    record {
      turn = record { kept = length start; next = done.next; requests = done.requests; messages = done.messages };
      input = overwrite (gathered input kept got) 0 start;
      out = overwrite out 0 (requests_in text);
      errors = overwrite errors 0 (messages_in number text);
    }
