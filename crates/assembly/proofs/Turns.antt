-- Turn by turn the lines of `lines_in` are read: a turn's text is what was kept and what was read, and what it keeps
-- stands at the front.
use Prim.Native.Nat.{ℕ, ◌+◌, ◌≤◌, ◌<◌, min}
use mathlib.Core.Path.{◌≡◌}
use mathlib.Core.Bool.{true}
use mathlib.Core.List.{List, [], ◌∷◌, ◌++◌}
use native.Mathlib.Numerals.{add-one}
use native.Mathlib.Omega.{arith}
use borrow.Author.Tests.{ne_eqb}
use lib.ListN.{length, take, drop}
use lib.Seq.{take-add, take-suc-set, take-append_seam}
use Rattle.assembly.specs.Batch.{newline, fits, admitted}
use Rattle.assembly.specs.Pieces.{start_of}
use Rattle.assembly.specs.Turn.{gathered, text_end, text_in, assemble}

module _ (input : List ℕ) (kept got : ℕ) where
  pub text_read : (got ≡ 0 → ⊥) → kept + got ≤ length input
      → text_in input kept got ≡ take kept input ++ take got (drop kept input)
  unfolding gathered text_end
  text_read some h =
      let all : min (length input) (kept + got) ≡ kept + got = omega arith in
      rw (ne_eqb got 0 some, all, take-add)

  -- at the end of the input: a line end
  pub text_ended : kept < length input → text_in input kept 0 ≡ take kept input ++ (newline ∷ [])
  unfolding gathered text_end
  text_ended h =
      let one : min (length input) (kept + 1) ≡ kept + 1 = omega arith in
      rw (one, add-one) (take-suc-set input kept newline h)

  pub start_first : (number : ℕ) (out errors : List ℕ)
      → fits (length (text_in input kept got)) number (length out) (length errors) ≡ true
      → let o = assemble input kept got number out errors in
      take o.turn.kept o.input ≡ start_of (text_in input kept got)
  unfolding assemble admitted
  start_first number out errors room = rw room (take-append_seam (start_of (text_in input kept got)) _)
