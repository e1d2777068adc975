-- However an input is cut into pieces, its lines are read as they are from the whole.
use Prim.Native.Nat.{ℕ, zero, suc, ◌+◌, ◌<◌}
use native.Mathlib.Decide.{dec_lt}
use native.Mathlib.Omega.{arith}
use mathlib.Core.Path.{◌≡◌, refl, sym, ap, ◌∙◌}
use mathlib.Core.Bool.{false}
use mathlib.Core.List.{List, [], ◌∷◌, ◌++◌, append_assoc, append-nil, map, map-append}
use lib.ListN.{length, take, length-append, length-take}
use lib.Seq.{take_all}
use lib.Dec.{eqb}
use Rattle.line.specs.Line.{Read, longest_line, read_line, request_of}
use Rattle.messages.specs.Message.{found_text, message_of}
use Rattle.assembly.specs.Batch.{newline, lines_from, unended_from, lines, requests_of, messages_of}
use Rattle.assembly.specs.Pieces.{longest_start, whole, lines_in}
use Rattle.line.proofs.Reading.{too_long, long_line}
use Rattle.assembly.proofs.Splitting.{Splits, none, end, byte, splits, split_lines, split_rest}

-- two texts, the second after the first
joined : {line a b mid left : List ℕ} {ls ms : List (List ℕ)} → Splits line a ls mid → Splits mid b ms left
    → Splits line (a ++ b) (ls ++ ms) left
joined none s = s
joined (end e r) s = end e (joined r s)
joined (byte e r) s = byte e (joined r s)

-- a text that ends no line
data Open : List ℕ → Type 0 where
  empty : Open []
  inside : {b : ℕ} {text : List ℕ} → eqb b newline ≡ false → Open text → Open (b ∷ text)

open_append : {a b : List ℕ} → Open a → Open b → Open (a ++ b)
open_append empty p = p
open_append (inside e o) p = inside e (open_append o p)

open_start : (n : ℕ) {text : List ℕ} → Open text → Open (take n text)
open_start zero o = empty
open_start (suc n) empty = empty
open_start (suc n) (inside e o) = inside e (open_start n o)

-- what is left of a text ends none
open_rest : {line text left : List ℕ} {ls : List (List ℕ)} → Splits line text ls left → Open line → Open left
open_rest none o = o
open_rest (end e s) o = open_rest s empty
open_rest (byte e s) o = open_rest s (open_append o (inside e empty))

begun : {text : List ℕ} → Open text → (line : List ℕ) → Splits line text [] (line ++ text)
begun empty line = rw append-nil none
begun (inside {b = b} {text = text} e o) line =
    rw (← append_assoc line (b ∷ []) text) (byte e (begun o (line ++ (b ∷ []))))

-- the start of an unfinished line, put before what is read next
resumed : {line : List ℕ} → Open line → (text : List ℕ)
    → Splits [] (line ++ text) (lines_from line text) (unended_from line text)
resumed {line} o text = joined (begun o []) (splits text line)

-- something that is told of each line by its bytes and how it is read; where it is too long, not by its bytes
module _ {A : Type 0} (tell : List ℕ → Read → A) (blind : (a b : List ℕ) → tell a too_long ≡ tell b too_long) where
  abbrev told : List ℕ → A
  told line = tell line (read_line line)

  -- the start that is kept tells that a line is too long
  enough : (line v : List ℕ) → told (take longest_start line ++ v) ≡ told (line ++ v)
  enough line v = go (dec_lt longest_start (length line))
    where
      go : Dec (longest_start < length line) → told (take longest_start line ++ v) ≡ told (line ++ v)
      go (yes h) =
          let start : List ℕ = take longest_start line ++ v in
          let short : longest_line + 1 < length start = rw (length-append, length-take) (omega arith) in
          let long : longest_line + 1 < length (line ++ v) = rw length-append (omega arith) in
          rw (← long_line start short, ← long_line (line ++ v) long) (blind start (line ++ v))
      go (no h) = rw (take_all longest_start line (omega arith))

  -- one text stands for another as the start of a line
  record Alike (a b : List ℕ) : Type 0 where
    alike : (v : List ℕ) → told (a ++ v) ≡ told (b ++ v)

  alike_byte : {a b : List ℕ} → Alike a b → (x : ℕ) → Alike (a ++ (x ∷ [])) (b ++ (x ∷ []))
  alike_byte {a} {b} s x = record {
    alike = λ v. rw (append_assoc a (x ∷ []) v, append_assoc b (x ∷ []) v) (s.alike (x ∷ v));
  }

  alike_here : {a b : List ℕ} → Alike a b → told a ≡ told b
  alike_here {a} {b} s = rw (append-nil a, append-nil b) at (s.alike [])

  alike_after : {a text left : List ℕ} {ls : List (List ℕ)} → Splits a text ls left → {b : List ℕ} → Alike a b
      → (map told ls ≡ map told (lines_from b text)) × Alike left (unended_from b text)
  unfolding lines_from unended_from
  alike_after none s = (refl, s)
  alike_after (end e r) s =
      let f = alike_after r {b = []} (record { alike = λ v. refl }) in
      rw (e, lines_from, unended_from) (cc (alike_here s, f.0), f.1)
  alike_after (byte {b = x} e r) s = rw (e, lines_from, unended_from) (alike_after r (alike_byte s x))

  alike_start : {a b : List ℕ} → Alike a b → Alike (take longest_start a) b
  alike_start {a} s = record { alike = λ v. enough a v ∙ s.alike v }

  read_in : (pieces : List (List ℕ)) {kept line : List ℕ} → Open kept → Alike kept line
      → map told (lines_in kept pieces) ≡ map told (lines_from line (whole pieces))
  unfolding lines_in whole lines_from
  read_in [] o s = refl
  read_in (piece ∷ more) {kept} {line} o s =
      let here = splits piece kept in
      let first = resumed o piece in
      let all = joined (splits piece line) (splits (whole more) (unended_from line piece)) in
      let (same, alike) = alike_after here s in
      let later = read_in more (open_start longest_start (open_rest here o)) (alike_start alike) in
      rw (split_lines first, split_rest first, split_lines all, map-append, map-append, same, later)

  told_however_cut : (pieces : List (List ℕ)) → map told (lines_in [] pieces) ≡ map told (lines (whole pieces))
  told_however_cut pieces = read_in pieces empty (record { alike = λ v. refl })

-- requests and messages, from what is told of each line
requests_told : (xs : List (List ℕ)) → requests_of xs ≡ whole (map (λ line. request_of (read_line line)) xs)
unfolding requests_of whole
requests_told [] = refl
requests_told (x ∷ xs) = rw (requests_told xs)

numbered : ℕ → List (ℕ → List ℕ) → List ℕ
numbered number [] = []
numbered number (say ∷ more) = say number ++ numbered (number + 1) more

messages_told : (xs : List (List ℕ)) (number : ℕ)
    → messages_of number xs ≡ numbered number (map (λ line k. message_of k line (read_line line)) xs)
unfolding messages_of numbered
messages_told [] number = refl
messages_told (x ∷ xs) number = rw (messages_told xs (number + 1))

-- parts of the lines, one after another, come to what all come to
pub requests_parts : (a b : List (List ℕ)) → requests_of (a ++ b) ≡ requests_of a ++ requests_of b
unfolding requests_of
requests_parts [] b = refl
requests_parts (x ∷ a) b = rw (requests_parts a b, append_assoc)

pub messages_parts : (a b : List (List ℕ)) (number : ℕ)
    → messages_of number (a ++ b) ≡ messages_of number a ++ messages_of (number + length a) b
unfolding messages_of
messages_parts [] b number =
    let none : number + 0 ≡ number = omega arith in
    rw none
messages_parts (x ∷ a) b number =
    let more : number + 1 + length a ≡ number + length (x ∷ a) = omega arith in
    rw (messages_parts a b (number + 1), more) (simp append_assoc)

-- however an input is cut, its requests and messages are those of the whole
module _ (pieces : List (List ℕ)) where
  pub requests_however_cut : requests_of (lines_in [] pieces) ≡ requests_of (lines (whole pieces))
  requests_however_cut =
      requests_told (lines_in [] pieces)
      ∙ ap whole (told_however_cut (λ line read. request_of read) (λ a b. refl) pieces)
      ∙ sym (requests_told (lines (whole pieces)))

  pub messages_however_cut : (number : ℕ)
      → messages_of number (lines_in [] pieces) ≡ messages_of number (lines (whole pieces))
  unfolding found_text
  messages_however_cut number =
      messages_told (lines_in [] pieces) number
      ∙ ap (numbered number) (told_however_cut (λ line read k. message_of k line read) (λ a b. refl) pieces)
      ∙ sym (messages_told (lines (whole pieces)) number)
