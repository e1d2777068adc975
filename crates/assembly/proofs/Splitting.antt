-- A text split at its line ends.
use Prim.Native.Nat.{ℕ, zero, suc, ◌+◌, ◌-◌, ◌≤◌, ◌<◌}
use native.Mathlib.Omega.{arith}
use mathlib.Core.Path.{◌≡◌, refl, sym, ap, ◌∙◌}
use mathlib.Core.Bool.{Bool, true, false}
use mathlib.Core.List.{List, [], ◌∷◌, ◌++◌, append_assoc, append-nil}
use native.Mathlib.Nat.{sub-zero}
use native.Mathlib.Numerals.{add-one}
use lib.ListN.{length, take, drop, get_or, length-append, length-drop, length-take}
use lib.Seq.{take_all, drop_at}
use lib.Dec.{eqb}
use Rattle.assembly.specs.Batch.{newline, lines_from, unended_from, lines, unended}

-- a text after the start of a line, the lines that it ends, and what is left: the next byte ends the line, or is one of
-- its bytes
pub data Splits : List ℕ → List ℕ → List (List ℕ) → List ℕ → Type 0 where
  none : {line : List ℕ} → Splits line [] [] line
  end : {line text left : List ℕ} {b : ℕ} {ls : List (List ℕ)} → eqb b newline ≡ true → Splits [] text ls left
      → Splits line (b ∷ text) (line ∷ ls) left
  byte : {line text left : List ℕ} {b : ℕ} {ls : List (List ℕ)} → eqb b newline ≡ false
      → Splits (line ++ (b ∷ [])) text ls left → Splits line (b ∷ text) ls left

pub splits : (text line : List ℕ) → Splits line text (lines_from line text) (unended_from line text)
unfolding lines_from unended_from
splits [] line = none
splits (b ∷ text) line = go (splits text []) (splits text (line ++ (b ∷ []))) (eqb b newline) refl
  where
    go : Splits [] text (lines text) (unended text)
        → Splits (line ++ (b ∷ [])) text (lines_from (line ++ (b ∷ [])) text) (unended_from (line ++ (b ∷ [])) text)
        → (t : Bool) → eqb b newline ≡ t → Splits line (b ∷ text) (lines_from line (b ∷ text)) (unended_from line (b ∷ text))
    go f g true e = rw (e, lines_from, unended_from) (end e f)
    go f g false e = rw (e, lines_from, unended_from) (byte e g)

-- there is no other way to split it
pub split_lines : {line text left : List ℕ} {ls : List (List ℕ)} → Splits line text ls left → lines_from line text ≡ ls
unfolding lines_from
split_lines none = refl
split_lines (end e s) = rw (e, lines_from, split_lines s)
split_lines (byte e s) = rw (e, lines_from) (split_lines s)

pub split_rest : {line text left : List ℕ} {ls : List (List ℕ)} → Splits line text ls left → unended_from line text ≡ left
unfolding unended_from
split_rest none = refl
split_rest (end e s) = rw (e, unended_from) (split_rest s)
split_rest (byte e s) = rw (e, unended_from) (split_rest s)

-- what the first line end says
record First (line text : List ℕ) (k : ℕ) : Type 0 where
  some : k < length text → let after = drop (suc k) text in
      Splits line text ((line ++ take k text) ∷ lines after) (unended after)
  last : length text ≤ k → Splits line text [] (line ++ text)

first_end : (text line : List ℕ) (k : ℕ) → k ≤ length text → ((j : ℕ) → j < k → eqb (get_or text j 0) newline ≡ false)
    → (k < length text → eqb (get_or text k 0) newline ≡ true) → First line text k
first_end [] line zero h before at = record { some = λ h. absurd (omega arith); last = λ h. rw append-nil none }
first_end [] line (suc k) h before at = absurd (omega arith)
first_end (b ∷ text) line zero h before at =
    let e : eqb b newline ≡ true = at (omega arith) in
    record {
      some = λ h. rw append-nil (end e (splits text []));
      last = λ h. absurd (omega arith);
    }
first_end (b ∷ text) line (suc k) h before at =
    let e : eqb b newline ≡ false = before zero (omega arith) in
    let rest : (j : ℕ) → j < k → eqb (get_or text j 0) newline ≡ false = λ j l. before (suc j) (omega arith) in
    let more = first_end text (line ++ (b ∷ [])) k (omega arith) rest (λ l. at (omega arith)) in
    record {
      some = λ h. rw (← append_assoc line (b ∷ []) (take k text)) (byte e (more.some (omega arith)));
      last = λ h. rw (← append_assoc line (b ∷ []) text) (byte e (more.last (omega arith)));
    }

-- a text whose first line end is at a place, or that has none before it
module _ (text : List ℕ) (end : ℕ) (before : (k : ℕ) → k < end → eqb (get_or text k 0) newline ≡ false) where
  -- the line, and what comes after its end
  abbrev pub line : List ℕ
  line = take (end - 0) text

  abbrev pub after : List ℕ
  after = take (length text - (end + 1)) (drop (end + 1) text)

  pub line_found : end < length text → eqb (get_or text end 0) newline ≡ true → (lines text ≡ line ∷ lines after) × (unended text ≡ unended after)
      × (length text ≡ length line + (1 + length after))
  line_found h at =
      let all : length (drop (end + 1) text) ≤ length text - (end + 1) = rw length-drop (omega arith) in
      let rest : after ≡ drop (end + 1) text = take_all (length text - (end + 1)) (drop (end + 1) text) all in
      let s : Splits [] text (line ∷ lines after) (unended after) = rw (rest, sub-zero, add-one) ((first_end text [] end (omega arith) before (λ l. at)).some h) in
      (split_lines s, split_rest s, rw rest (simp (length-take, length-drop) (omega arith)))

  pub no_line : end ≡ length text → (lines text ≡ []) × (unended text ≡ text)
  no_line h =
      let s : Splits [] text [] text = (first_end text [] end (omega arith) before (λ l. absurd (omega arith))).last (omega arith) in
      (split_lines s, split_rest s)

-- what is left of a text is its end
left_at_end : {line text left : List ℕ} {ls : List (List ℕ)} → Splits line text ls left
    → (front : List ℕ) × (line ++ text ≡ front ++ left)
left_at_end {line} none = ([], append-nil line)
left_at_end {line} {left = left} (end {b = b} e s) =
    let (front, q) = left_at_end s in
    (line ++ (b ∷ front), ap (λ (xs : List ℕ). line ++ (b ∷ xs)) q ∙ sym (append_assoc line (b ∷ front) left))
left_at_end {line} (byte {text = text} {b = b} e s) =
    let (front, q) = left_at_end s in
    (front, sym (append_assoc line (b ∷ []) text) ∙ q)

module _ (text : List ℕ) where
  part : (front left : List ℕ) → text ≡ front ++ left
      → (length left ≤ length text) × (drop (length text - length left) text ≡ left)
  part front left q =
      let size : length text ≡ length front + length left = rw (q, length-append) in
      let place : length text - length left ≡ length front = omega arith in
      (omega arith, rw (place, q) (drop_at front left (length front) refl))

  pub unended_part : (length (unended text) ≤ length text) × (drop (length text - length (unended text)) text ≡ unended text)
  unended_part =
      let (front, q) = left_at_end (splits text []) in
      part front (unended text) q
