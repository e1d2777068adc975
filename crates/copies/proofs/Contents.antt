-- What copies write in a given room.
use Prim.Native.Nat.{ℕ, suc, min, ◌+◌, ◌-◌, ◌<◌, ◌≤◌}
use mathlib.Core.Path.{◌≡◌, refl, sym, ap, ◌∙◌}
use mathlib.Core.List.{List, ◌++◌, append_assoc, append-nil}
use native.Mathlib.Nat.{sub_self}
use native.Mathlib.Decide.{dec_le}
use native.Mathlib.Omega.{arith}
use lib.ListN.{length, take, drop, replicate, length-append, length-take, length-drop, length-replicate}
use lib.Seq.{take_all, drop-length, length-take-le, take-take, take_at, drop_at, drop-drop, take-append-le, take-append-add}
use Rattle.std.proofs.lemmas.List.{take-replicate}
use Rattle.scan.specs.Bytes.{index_of}
use Rattle.copies.proofs.Index.{index_le}
use Rattle.request.specs.declared.Kind.TheVariants.{String, Padded}
use Rattle.writing.specs.Overwrite.{overwrite}
use Rattle.writing.proofs.Fitting.{Put}
use Rattle.copies.specs.Writes.{string_in, clipped, writes}
use Rattle.copies.proofs.Clipping.{clipped_longer}

-- ---- strings

-- as many bytes as the target has
overwrite_all : (t text : List ℕ) → length text ≡ length t → overwrite t 0 text ≡ text
overwrite_all t text e = rw (e, drop-length, append-nil)

-- the first zero byte was sought among those that fit
module _ (s : List ℕ) (room : ℕ) {seen end : ℕ} (fit : seen ≡ min (length s) room) (found : end ≡ min seen (index_of 0 s)) where
  abbrev text : List ℕ
  text = string_in s

  -- there is none: the source is the string, or both are longer than the room and begin alike
  pub string_rest : seen ≤ end → clipped room s ≡ writes String s room
  string_rest none = elim (dec_le (length s) room) [
    | yes l ↦
        let whole : text ≡ s = take_all (suc (index_of 0 s)) s (omega arith) in
        ap (clipped room) (sym whole)
    | no l ↦
        let long : room < length text = rw length-take (omega arith) in
        let same : take room text ≡ take room s = take-take room (suc (index_of 0 s)) s (omega arith) in
        clipped_longer room s (omega arith) ∙ rw (← same) (sym (clipped_longer room text long))
  ]

-- ---- padded copies

sub_le : {a b : ℕ} (c : ℕ) → a ≤ b → a - c ≤ b - c
sub_le c h = omega arith

module _ (s : List ℕ) (count : ℕ) where
  k : ℕ
  k = index_of 0 s

  -- the text and zeros enough
  padded : List ℕ
  padded = take k s ++ replicate count 0

  -- in a room
  in_room : (n : ℕ) {room : ℕ} → room ≡ min count n → writes (Padded count) s n ≡ take room padded
  unfolding k padded
  in_room n {room} e = go (dec_le n count)
    where
      go : Dec (n ≤ count) → take n (take count padded) ≡ take room padded
      go (yes h) = let all : room ≡ n = omega arith in rw all (take-take n count padded h)
      go (no h) =
          let all : room ≡ count = omega arith in
          rw all (take_all n (take count padded) (rw length-take (omega arith)))

  module _ {room text : ℕ} (fits : room ≤ count) (cut : text ≡ min room k) where
    -- its front: the text that fits, and then zeros
    padded_front : take room padded ≡ take text s ++ replicate (room - text) 0
    unfolding k padded
    padded_front = go (dec_le k room)
      where
        size : length (take k s) ≡ k
        size = length-take-le k s (index_le 0 s)

        go : Dec (k ≤ room) → take room padded ≡ take text s ++ replicate (room - text) 0
        go (yes h) =
            let whole : text ≡ k = omega arith in
            let split : room ≡ length (take k s) + (room - k) = rw size (omega arith) in
            rw whole (ap (λ (n : ℕ). take n padded) split
            ∙ take-append-add (take k s) (replicate count 0) (room - k) ∙ rw (take-replicate {X = ℕ} (room - k) count 0 (omega arith)))
        go (no h) =
            let none : text ≡ room = omega arith in
            rw (none, take-append-le room (take k s) (replicate count 0) (rw size (omega arith)), take-take room k s (omega arith), sub_self, append-nil)

  -- the text copied and the rest cleared
  pub padded_put : (t : List ℕ) {room seen text : ℕ} {mid zeros : List ℕ} → room ≡ min count (length t) → seen ≡ min (length s) room
      → text ≡ min seen (index_of 0 s)
      → mid ≡ overwrite t 0 (take (length t) (take text s))
      → zeros ≡ replicate (length (take (room - text) (drop text mid))) 0
      → Put t (writes (Padded count) s (length t)) room (take text mid ++ (zeros ++ drop (room - text) (drop text mid)))
  unfolding k
  padded_put t {room} {seen} {text} {mid} {zeros} roomy view at copied cleared =
      let cut : text ≡ min room k = omega (arith, at, index_le 0 s) in
      let size : length (take text s) ≡ text = length-take-le text s (omega (arith, index_le 0 s)) in
      let middle : mid ≡ take text s ++ drop text t = copied ∙ rw (take_all (length t) (take text s) (rw size (omega arith)), size) in
      let before : take text mid ≡ take text s = rw middle (take_at (take text s) (drop text t) text size) in
      let after : drop text mid ≡ drop text t = rw middle (drop_at (take text s) (drop text t) text size) in
      let left : length (take (room - text) (drop text t)) ≡ room - text =
      length-take-le (room - text) (drop text t) (rw length-drop (sub_le text (omega arith))) in
      let fill : zeros ≡ replicate (room - text) 0 = cleared ∙ rw (after, left) in
      let end : text + (room - text) ≡ room = omega arith in
      let front : writes (Padded count) s (length t) ≡ take text s ++ replicate (room - text) 0 = in_room (length t) roomy ∙ padded_front (omega arith) cut in
      let all : length (take text s ++ replicate (room - text) 0) ≡ room = rw (length-append, size, length-replicate) end in
      rw (front, all, before, after, fill, drop-drop (room - text) text t, end)
      (refl, sym (append_assoc (take text s) (replicate (room - text) 0) (drop room t)))
