-- Texts written one after another.
use Prim.Native.Nat.{ℕ, ◌+◌, ◌-◌, ◌≤◌, ◌<◌}
use mathlib.Core.Path.{◌≡◌, sym, ap, ◌∙◌}
use mathlib.Core.List.{List, [], ◌∷◌, ◌++◌, append_assoc, append-nil}
use native.Mathlib.Nat.{le_of_eq}
use native.Mathlib.Numerals.{add-one}
use native.Mathlib.Omega.{arith}
use lib.ListN.{length, take, drop, set, length-append, length-take, length-drop, drop_of_length-le}
use lib.Seq.{take_at, drop_at, drop-drop, take_all, set_split}
use Rattle.writing.specs.Overwrite.{overwrite}

-- a list keeps its length where what is written lies within
pub overwrite_length : (xs : List ℕ) (a : ℕ) (ys : List ℕ) → a + length ys ≤ length xs → length (overwrite xs a ys) ≡ length xs
overwrite_length xs a ys h = simp (length-append, length-take, length-drop) (omega arith)

-- two texts, the second where the first ends, are one
module _ (xs ys zs : List ℕ) (a : ℕ) (room : a + length ys ≤ length xs) where
  front : length (take a xs ++ ys) ≡ a + length ys
  front = simp (length-append, length-take) (omega arith)

  join : overwrite (overwrite xs a ys) (a + length ys) zs ≡ overwrite xs a (ys ++ zs)
  join =
      rw (
        ← append_assoc (take a xs) ys (drop (length ys) (drop a xs)),
        take_at (take a xs ++ ys) (drop (length ys) (drop a xs)) (a + length ys) front,
        drop_at (take a xs ++ ys) (drop (length ys) (drop a xs)) (a + length ys) front,
        drop-drop (length zs) (length ys) (drop a xs),
        ← length-append ys zs,
      )
      (append_assoc (take a xs) ys _ ∙ ap (λ (l : List ℕ). take a xs ++ l) (sym (append_assoc ys zs _)))

-- a text written at a place: what the bytes were and are
pub record Wrote (xs out : List ℕ) (a : ℕ) (ys : List ℕ) : Type 0 where
  pub bytes : out ≡ overwrite xs a ys
  pub room : a + length ys ≤ length xs

pub wrote_then : {xs mid out ys zs : List ℕ} {a b : ℕ} → Wrote xs mid a ys → Wrote mid out b zs → b ≡ a + length ys → Wrote xs out a (ys ++ zs)
wrote_then {xs} {ys = ys} {zs = zs} {a = a} {b = b} f g q = record {
  bytes = g.bytes ∙ rw (f.bytes, q) (join xs ys zs a f.room);
  room =
      let n : length (overwrite xs a ys) ≡ length xs = overwrite_length xs a ys f.room in
      let fits : b + length zs ≤ length (overwrite xs a ys) = rw f.bytes at g.room in
      rw length-append (omega arith);
}

-- one byte
pub wrote_byte : (xs : List ℕ) (a v : ℕ) → a < length xs → Wrote xs (set xs a v) a (v ∷ [])
wrote_byte xs a v h = record { bytes = set_split xs a v h ∙ rw (drop-drop 1 a xs, add-one); room = omega arith }

-- a text at the front of all that lies from a place on
pub wrote_from : (out line : List ℕ) (a : ℕ) {w : List ℕ} → w ≡ overwrite (take (length out - a) (drop a out)) 0 line
    → a + length line ≤ length out
    → Wrote out (take a out ++ (w ++ drop (length out - a) (drop a out))) a line
wrote_from out line a p h =
    let all : length (drop a out) ≤ length out - a = le_of_eq (length-drop a out) in
    record { bytes = rw (p, take_all (length out - a) (drop a out) all, drop_of_length-le (drop a out) all, append-nil); room = h }

-- a text written keeps the length
pub wrote_length : {xs out ys : List ℕ} {a : ℕ} → Wrote xs out a ys → length out ≡ length xs
wrote_length {xs} {ys = ys} {a = a} w = rw w.bytes (overwrite_length xs a ys w.room)
