-- One turn: a text is gathered, its lines are read, and the start of the next one is kept.
use Prim.Native.Nat.{ℕ, ◌≤◌, ◌+◌, ◌-◌, min}
use mathlib.Core.Path.{◌≡◌, refl, ap, ◌∙◌}
use mathlib.Core.Bool.{Bool, true, false, cond}
use mathlib.Core.List.{List}
use native.Mathlib.Nat.{sub-zero}
use native.Mathlib.Omega.{arith}
use lib.ListN.{length, take, drop}
use lib.Seq.{length-take-le}
use Rattle.writing.specs.Overwrite.{overwrite}
use Rattle.std.proofs.lemmas.List.{drop-take}
use Rattle.numbers.proofs.Cut.{take_min}
use Rattle.assembly.specs.Batch.{unended, requests_in, messages_in, turn_of, fits, admitted}
use Rattle.assembly.specs.Pieces.{longest_start}
use Rattle.assembly.specs.Turn.{gathered, text_end, text_in, Taken, assemble}
use Rattle.assembly.specs.declared.Turn.{Turn}
use Rattle.assembly.proofs.Splitting.{unended_part}

-- what a turn answers and leaves, and the front of a buffer as it is lent
abbrev pub turned : (kept next requests messages : ℕ) → List ℕ → List ℕ → List ℕ → Taken
turned kept next requests messages input out errors =
    record {
      turn = record { kept = kept; next = next; requests = requests; messages = messages };
      input = input;
      out = out;
      errors = errors;
    }

abbrev pub front : ℕ → List ℕ → List ℕ
front n buffer = take (n - 0) buffer

module _ (input : List ℕ) (before got number : ℕ) (out errors : List ℕ) {end len : ℕ} {buffer : List ℕ}
    (g : ((end ≡ text_end (length input) before got) × (end ≤ length buffer)) × (buffer ≡ gathered input before got))
    (told : (len ≡ cond (fits end number (length out) (length errors)) end 0) × (len ≤ end)) where
  size : length (front len buffer) ≡ len
  size = rw (sub-zero len) (length-take-le len buffer (omega (arith, g.0.1, told.1)))

  -- what is read lies at the front
  text : admitted (text_in input before got) number (length out) (length errors) ≡ front len buffer
  unfolding admitted
  text =
      let whole : text_in input before got ≡ take end buffer = rw (g.0.0, g.1) in
      go whole (rw whole (length-take-le end buffer g.0.1)) (fits end number (length out) (length errors)) refl
    where
      go : text_in input before got ≡ take end buffer → length (text_in input before got) ≡ end
          → (t : Bool) → fits end number (length out) (length errors) ≡ t
          → admitted (text_in input before got) number (length out) (length errors) ≡ front len buffer
      go whole all true e =
          let n : len ≡ end = told.0 ∙ rw e in
          rw (all, e, n, sub-zero end) whole
      go whole all false e =
          let n : len ≡ 0 = told.0 ∙ rw e in
          rw (all, e, n)

  module _ {done : Turn} (read : done ≡ turn_of number (front len buffer)) where
    kept : done.kept ≡ length (unended (front len buffer))
    unfolding turn_of
    kept = ap (λ (t : Turn). t.kept) read

    left : take done.kept (drop (len - done.kept) buffer) ≡ unended (front len buffer)
    left =
        let (small, part) = unended_part (front len buffer) in
        let all : len - done.kept + done.kept ≡ len - 0 = omega (arith, size, kept) in
        let place : len - done.kept ≡ length (front len buffer) - length (unended (front len buffer)) = omega (arith, size, kept) in
        rw (← drop-take (len - done.kept) done.kept buffer, all, place) part

    pub a_turn : {n k : ℕ} {input' out' errors' : List ℕ} → n ≡ min longest_start done.kept
        → let start = take n (drop (len - done.kept) buffer) in (k ≡ length start) × (input' ≡ overwrite buffer 0 start)
        → (out' ≡ overwrite out 0 (requests_in (front len buffer)))
        × (errors' ≡ overwrite errors 0 (messages_in number (front len buffer)))
        → turned k done.next done.requests done.messages input' out' errors'
        ≡ assemble input before got number out errors
    unfolding assemble
    a_turn few (size, p) (q, r) =
        let all = take_min longest_start done.kept (drop (len - done.kept) buffer) few in
        let start = all ∙ ap (take longest_start) left in
        rw (text, ← read, size, p, q, r, start, ← g.1)
