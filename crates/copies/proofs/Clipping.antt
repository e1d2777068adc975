-- What copies write in a room: no more than fits, and of a string that is longer what fits, closed with a zero.
use Prim.Native.Nat.{ℕ, suc, min, ◌-◌, ◌<◌, ◌≤◌}
use mathlib.Core.Path.{◌≡◌, refl, ap, ◌∙◌}
use mathlib.Core.Logic.{◌⊎◌, inl, inr}
use mathlib.Core.Bool.{Bool, true, false}
use mathlib.Core.List.{List, [], ◌∷◌}
use native.Mathlib.Nat.{not-suc-le-zero, le_of_suc-le-suc}
use native.Mathlib.Decide.{dec_le}
use native.Mathlib.Omega.{arith}
use borrow.Author.Tests.{eqb-true, le-leb, lt-leb}
use lib.Dec.{eqb}
use lib.ListN.{length, take, set, get_or, length-take, length-set}
use lib.Seq.{take_all, get_or-take, get_or-set_same, get_or-set_other}
use Rattle.scan.specs.Bytes.{index_of, index_after}
use Rattle.request.specs.declared.Kind.{Kind}
use Rattle.request.specs.declared.Kind.TheVariants.{Bytes, String, Padded}
use Rattle.copies.specs.Writes.{string_in, clipped, writes}

module _ (room : ℕ) (text : List ℕ) where
  pub clipped_fits : length text ≤ room → clipped room text ≡ text
  clipped_fits h = rw (le-leb (length text) room h)

  pub clipped_longer : room < length text → clipped room text ≡ set (take room text) (room - 1) 0
  clipped_longer h = rw (lt-leb (length text) room h)

  -- a clipped text fills its room
  pub clipped_length : length (clipped room text) ≡ min (length text) room
  clipped_length = elim (dec_le (length text) room) [
    | yes h ↦ rw (clipped_fits h) (omega arith)
    | no h ↦ rw (clipped_longer (omega arith), length-set, length-take) (omega arith)
  ]

  -- of its bytes the last alone is not the text's
  pub clipped_front : (i : ℕ) → suc i < room → get_or (clipped room text) i 0 ≡ get_or text i 0
  clipped_front i h = elim (dec_le (length text) room) [
    | yes l ↦ rw (clipped_fits l)
    | no l ↦
        rw (clipped_longer (omega arith), get_or-set_other (take room text) (room - 1) i 0 0 (λ e. omega (arith, e)))
        (get_or-take room text i 0 (omega arith))
  ]

-- a plain copy writes bytes of the source alone
pub bytes_own : (source : List ℕ) (room i : ℕ) → i < room → get_or (writes Bytes source room) i 0 ≡ get_or source i 0
bytes_own source room i h = get_or-take room source i 0 h

-- no copy writes more than its room
pub writes_le : (kind : Kind) (source : List ℕ) (room : ℕ) → length (writes kind source room) ≤ room
writes_le Bytes source room = rw length-take (omega arith)
writes_le String source room = omega (arith, clipped_length room (string_in source))
writes_le (Padded count) source room = rw length-take (omega arith)

-- where an element is found, it is
get_d_index : (b d : ℕ) (xs : List ℕ) → index_of b xs < length xs → get_or xs (index_of b xs) d ≡ b
unfolding index_of index_after
get_d_index b d [] h = absurd (not-suc-le-zero h)
get_d_index b d (x ∷ xs) h = go (eqb x b) refl h (get_d_index b d xs)
  where
    go : (t : Bool) → eqb x b ≡ t → index_after t (index_of b xs) < suc (length xs)
        → (index_of b xs < length xs → get_or xs (index_of b xs) d ≡ b)
        → get_or (x ∷ xs) (index_after t (index_of b xs)) d ≡ b
    go true e l rest = eqb-true x b e
    go false e l rest = rest (le_of_suc-le-suc l)

module _ (s : List ℕ) (room : ℕ) where
  abbrev written : List ℕ
  written = writes String s room

  abbrev text : List ℕ
  text = string_in s

  -- a string that has its zero, or is longer than the room, is closed: the last byte written is zero
  pub string_closed : 0 < room → (index_of 0 s < length s) ⊎ (room < length s) → get_or written (length written - 1) 1 ≡ 0
  string_closed some h = elim (dec_le (length text) room) [
    | yes l ↦
        let size = length-take (suc (index_of 0 s)) s in
        let found : index_of 0 s < length s = elim h [
          | inl f ↦ f
          | inr f ↦ omega arith
        ] in
        let last : length text - 1 ≡ index_of 0 s = omega arith in
        rw (clipped_fits room text l, last, get_or-take (suc (index_of 0 s)) s (index_of 0 s) 1 (omega arith))
        (get_d_index 0 1 s found)
    | no l ↦
        let full : length written ≡ room = clipped_length room text ∙ omega arith in
        rw (full, clipped_longer room text (omega arith))
        (get_or-set_same (take room text) (room - 1) 0 1 (rw length-take (omega arith)))
  ]

  -- one that has none and fits is written as it is
  pub string_open : length s ≤ index_of 0 s → length s ≤ room → written ≡ s
  string_open none fits =
      let whole : text ≡ s = take_all (suc (index_of 0 s)) s (omega arith) in
      ap (clipped room) whole ∙ clipped_fits room s fits
