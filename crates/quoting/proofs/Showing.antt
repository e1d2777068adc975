-- A word written between quotes, byte by byte.
use Prim.Native.Nat.{ℕ, ◌+◌, ◌≤◌, ◌<◌}
use mathlib.Core.Path.{◌≡◌, refl, sym, ◌∙◌}
use mathlib.Core.List.{List, [], ◌∷◌, ◌++◌, map, map-append, append_assoc}
use native.Mathlib.Numerals.{add-one}
use native.Mathlib.Omega.{arith}
use borrow.Author.Tests.{le-leb, lt-leb}
use lib.ListN.{length, take, get_or, set, replicate, length-append}
use lib.Seq.{take-suc, take_at}
use Rattle.alike.specs.Text.{bytes}
use Rattle.writing.specs.Overwrite.{overwrite}
use Rattle.writing.proofs.Writing.{Wrote, wrote_then, wrote_byte, wrote_length}
use Rattle.quoting.specs.Quoted.{shown_most, shown_byte, opened, quoted, quoted_room}

-- no text yet
abbrev pub blank : List ℕ
blank = replicate quoted_room 0

-- a quote and the first i bytes of a word stand at the front
pub record Opened (word text : List ℕ) (i : ℕ) : Type 0 where
  pub wrote : Wrote blank text 0 (bytes "\"" ++ map shown_byte (take i word))
  pub size : length (bytes "\"" ++ map shown_byte (take i word)) ≡ 1 + i

pub opened_room : {word text : List ℕ} {i : ℕ} → Opened word text i → length text ≡ quoted_room
opened_room o = wrote_length o.wrote

-- the quote
pub opened_none : (word : List ℕ) → Opened word (set blank 0 34) 0
unfolding bytes
opened_none word = record { wrote = record { bytes = refl; room = omega arith }; size = refl }

-- one more
pub opened_more : {word text : List ℕ} {i v : ℕ} → Opened word text i → i < length word → 1 + i < quoted_room
    → v ≡ shown_byte (get_or word i 0) → Opened word (set text (1 + i) v) (i + 1)
opened_more {word} {text} {i} {v} o h l e =
    let room = opened_room o in
    let front : List ℕ = bytes "\"" ++ map shown_byte (take i word) in
    let more : front ++ (v ∷ []) ≡ bytes "\"" ++ map shown_byte (take (i + 1) word) =
    append_assoc (bytes "\"") _ _ ∙ rw (add-one, take-suc word i 0 h, map-append, e) in
    record {
      wrote = rw (← more) (wrote_then o.wrote (wrote_byte text (1 + i) v (omega arith)) (omega (arith, o.size)));
      size = rw (← more, length-append, o.size) (omega arith);
    }

-- what is answered
abbrev pub Quoted : List ℕ → List ℕ → ℕ → Type 0
Quoted word text len =
    ((text ≡ overwrite blank 0 (quoted word)) × (len ≡ length (quoted word)) × (len ≤ quoted_room))
    × ((take len text ≡ quoted word) × (length text ≡ quoted_room))

module _ (word more : List ℕ) {text after : List ℕ} {end len : ℕ}
    (o : (text ≡ overwrite blank 0 (opened word)) × (end ≡ length (opened word)) × (end ≤ 1 + shown_most))
    (put : (after ≡ overwrite text end more) × (len ≡ end + length more)) where
  -- what closes the quotes is put behind the start
  pub closed : length more ≤ 4 → quoted word ≡ opened word ++ more → Quoted word after len
  closed few e =
      let front : Wrote blank text 0 (opened word) = record { bytes = o.0; room = omega arith } in
      let back : Wrote text after end more = record { bytes = put.0; room = omega (arith, wrote_length front) } in
      let all : Wrote blank after 0 (quoted word) = rw e (wrote_then front back (omega arith)) in
      let size : len ≡ length (quoted word) = rw (e, length-append) (omega arith) in
      let shown = take_at (quoted word) _ len (sym size) in
      ((all.bytes, size, omega (arith, all.room)), (rw all.bytes shown, wrote_length all))

  -- of a word that is shown whole, a quote
  pub closed_whole : length word ≤ shown_most → more ≡ 34 ∷ [] → Quoted word after len
  unfolding quoted bytes
  closed_whole h e = closed (rw e (omega arith)) (rw (le-leb (length word) shown_most h, e))

  -- and dots of one that is longer
  pub closed_start : shown_most < length word → more ≡ 34 ∷ 46 ∷ 46 ∷ 46 ∷ [] → Quoted word after len
  unfolding quoted bytes
  closed_start h e = closed (rw e (omega arith)) (rw (lt-leb (length word) shown_most h, e))
