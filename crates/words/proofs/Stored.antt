-- A number read at a place and stored there.
use Prim.Native.Nat.{ℕ, ◌+◌, ◌/◌, ◌%◌, ◌^◌, ◌<◌, ◌≤◌}
use mathlib.Core.Path.{◌≡◌, refl, sym, ap, ◌∙◌}
use mathlib.Core.Bool.{Bool, true, false, cond}
use mathlib.Core.List.{List, ◌++◌}
use native.Mathlib.Nat.{div-div-eq-div-mul, div-add-mod', mod-eq_of_lt}
use native.Mathlib.Omega.{arith}
use borrow.Author.Tests.{leb-true, le-leb}
use lib.Dec.{leb}
use lib.ListN.{length, take, drop, get_or}
use lib.Seq.{length-take-le, get_or-take, get_or-drop}
use Rattle.writing.specs.Overwrite.{overwrite}
use Rattle.writing.proofs.Writing.{overwrite_length}
use Rattle.writing.proofs.Parts.{part_here, part_before, part_after, front_written}
use Rattle.words.specs.Word.{word_of, bytes_of, word_at, put_word}

-- a number's bytes are read as it was
pub word_bytes_lem : (n : ℕ) → n < 2 ^ 32 → word_of (bytes_of n) ≡ n
word_bytes_lem n h =
    let two : n / 65536 ≡ n / 256 / 256 = sym (div-div-eq-div-mul n 256 256) in
    let three : n / 16777216 ≡ n / 65536 / 256 = sym (div-div-eq-div-mul n 65536 256) in
    let top : n / 16777216 % 256 ≡ n / 16777216 = mod-eq_of_lt (omega arith) in
    omega (arith, div-add-mod' n 256, div-add-mod' (n / 256) 256, div-add-mod' (n / 65536) 256)

-- a place's number is that of its four bytes
word_front : (b : List ℕ) → word_of (take 4 b) ≡ word_of b
word_front b =
    rw (
      get_or-take 4 b 0 0 (omega arith),
      get_or-take 4 b 1 0 (omega arith),
      get_or-take 4 b 2 0 (omega arith),
      get_or-take 4 b 3 0 (omega arith),
    )

pub word_same : (b b' : List ℕ) (p : ℕ) → take 4 (drop p b') ≡ take 4 (drop p b) → word_at b' p ≡ word_at b p
word_same b b' p e = sym (word_front (drop p b')) ∙ ap word_of e ∙ word_front (drop p b)

-- a number that ends within the front of a list stands in the front
pub word_taken : (b : List ℕ) (n p : ℕ) → p + 4 ≤ n → word_at (take n b) p ≡ word_at b p
word_taken b n p h = rw (byte 0 (omega arith), byte 1 (omega arith), byte 2 (omega arith), byte 3 (omega arith))
  where
    byte : (i : ℕ) → i < 4 → get_or (drop p (take n b)) i 0 ≡ get_or (drop p b) i 0
    byte i l = get_or-drop p (take n b) i 0 ∙ get_or-take n b (p + i) 0 (omega arith) ∙ sym (get_or-drop p b i 0)

module _ (b : List ℕ) (at : ℕ) where
  module _ (n : ℕ) where
    -- either way the length stays, and so do the bytes of every other place
    put_keeps : (P : List ℕ → Type 0) → P b → (at + 4 ≤ length b → P (overwrite b at (bytes_of n))) → P (put_word b at n)
    put_keeps P none some = go (leb (at + 4) (length b)) refl
      where
        go : (t : Bool) → leb (at + 4) (length b) ≡ t → P (cond t (overwrite b at (bytes_of n)) b)
        go true e = some (leb-true (at + 4) (length b) e)
        go false e = none

    pub put_length : length (put_word b at n) ≡ length b
    put_length = put_keeps (λ l. length l ≡ length b) refl (overwrite_length b at (bytes_of n))

    pub put_before : (p k : ℕ) → p + k ≤ at → take k (drop p (put_word b at n)) ≡ take k (drop p b)
    put_before p k h =
        put_keeps (λ l. take k (drop p l) ≡ take k (drop p b)) refl
        (λ room. part_before b at (bytes_of n) (omega arith) p k h)

    pub put_after : (p : ℕ) → at + 4 ≤ p → drop p (put_word b at n) ≡ drop p b
    put_after p h = put_keeps (λ l. drop p l ≡ drop p b) refl (λ room. part_after b at (bytes_of n) (omega arith) p h)

    -- a number stored is read back, and those that stand elsewhere are as they were
    pub word_stored : at + 4 ≤ length b → n < 2 ^ 32 → word_at (put_word b at n) at ≡ n
    word_stored room h =
        let here : take 4 (drop at (overwrite b at (bytes_of n))) ≡ bytes_of n = part_here b at (bytes_of n) (omega arith) 4 refl in
        rw (le-leb (at + 4) (length b) room) (sym (word_front (drop at (overwrite b at (bytes_of n)))) ∙ ap word_of here ∙ word_bytes_lem n h)

    pub word_before : (p : ℕ) → p + 4 ≤ at → word_at (put_word b at n) p ≡ word_at b p
    word_before p h = word_same b (put_word b at n) p (put_before p 4 h)

    pub word_after : (p : ℕ) → at + 4 ≤ p → word_at (put_word b at n) p ≡ word_at b p
    word_after p h = ap word_of (put_after p h)

-- a number stored in the front of a list is stored in the list
pub front_put : (b : List ℕ) (n at v : ℕ) → at + 4 ≤ n → n ≤ length b → put_word (take n b) at v ++ drop n b ≡ put_word b at v
front_put b n at v h l =
    rw (le-leb (at + 4) (length (take n b)) (rw (length-take-le n b l) h), le-leb (at + 4) (length b) (omega arith))
    (front_written n b at (bytes_of v) h l)
