-- A line cut at its comment and its end.
use Prim.Native.Nat.{ℕ, ◌+◌, ◌-◌, ◌≤◌, ◌<◌}
use mathlib.Core.Path.{◌≡◌, refl}
use mathlib.Core.Bool.{Bool, true, false}
use mathlib.Core.List.{List, [], ◌∷◌, ◌++◌}
use native.Mathlib.Nat.{sub-zero}
use native.Mathlib.Omega.{arith}
use borrow.Author.Tests.{lt-ltb, le-ltb, eq-eqb, ne_eqb}
use lib.ListN.{length, take, get_or, length-append, length-take}
use lib.Seq.{take-length, take-append_seam, get_or-append_seam}
use lib.Dec.{eqb}
use Rattle.std.specs.Prelude.{Err}
use Rattle.scan.specs.Bytes.{slice, index_of}
use Rattle.line.specs.Text.{carriage_return, trimmed_end, trimmed}
use Rattle.line.specs.Line.{Read, statement, hash, longest_line, read_text, read_line}
use Rattle.line.specs.declared.BadLine.TheVariants.{TooLong}

-- what is answered of a line that is too long
abbrev pub too_long : Read
too_long = Err TooLong

module _ (line : List ℕ) where
  pub long_text : longest_line < length line → too_long ≡ read_text line
  unfolding read_text
  long_text h = rw (lt-ltb longest_line (length line) h)

  pub short_text : {end : ℕ} → length line ≤ longest_line → end ≡ 0 + index_of hash (slice 0 (length line) line)
      → statement (take (end - 0) line) ≡ read_text line
  unfolding read_text
  short_text {end} h e =
      let found : end ≡ index_of hash line = omega (arith, rw take-length at e) in
      rw (le-ltb longest_line (length line) h, ← found, sub-zero end)

  -- the last byte is a carriage return, or there is none
  pub return_last : get_or line (length line - 1) 0 ≡ carriage_return → length line - 1 ≡ trimmed_end line
  unfolding trimmed_end
  return_last h = rw (eq-eqb (get_or line (length line - 1) 0) carriage_return h)

  pub other_last : (get_or line (length line - 1) 0 ≡ carriage_return → ⊥) → length line ≡ trimmed_end line
  unfolding trimmed_end
  other_last h = rw (ne_eqb (get_or line (length line - 1) 0) carriage_return h)

-- a line is read alike with a carriage return before its line feed and without
pub return_ignored : (line : List ℕ) → (get_or line (length line - 1) 0 ≡ carriage_return → ⊥)
    → read_line (line ++ (carriage_return ∷ [])) ≡ read_line line
return_ignored line h =
    let long : List ℕ = line ++ (carriage_return ∷ []) in
    let size : length long - 1 ≡ length line = simp length-append (omega arith) in
    let last : get_or long (length long - 1) 0 ≡ carriage_return = rw size (get_or-append_seam line carriage_return [] 0) in
    rw (← return_last long last, size, take-append_seam, ← other_last line h, take-length)

-- a line that has more bytes than a line and a carriage return may have is too long
pub long_line : (line : List ℕ) → longest_line + 1 < length line → too_long ≡ read_line line
unfolding trimmed_end
long_line line h = long_text (trimmed line) (go (eqb (get_or line (length line - 1) 0) carriage_return) refl)
  where
    go : (t : Bool) → eqb (get_or line (length line - 1) 0) carriage_return ≡ t → longest_line < length (trimmed line)
    go true e = rw (e, length-take) (omega arith)
    go false e = rw (e, length-take) (omega arith)
