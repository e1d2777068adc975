-- Parts of lists; and those read back after one is written over: the part written, and those before and after it.
use Prim.Native.Nat.{ℕ, zero, suc, ◌+◌, ◌-◌, ◌≤◌, ◌<◌}
use mathlib.Core.Path.{◌≡◌, refl, sym, ap, ◌∙◌}
use mathlib.Core.List.{List, ◌++◌, append_assoc}
use native.Mathlib.Omega.{arith}
use lib.ListN.{length, take, drop, get_or, replicate, length-drop, take-append-drop, get_or-append}
use lib.Seq.{length-take-le, take_at, take-take, drop_at, drop-drop, get_or-take, get_or-drop}
use lib.Seq.{take-append-le, drop-append-le, drop-append_seam, get_or-append-add}
use Rattle.writing.specs.Overwrite.{overwrite}

-- of zeros every one is 0
pub zeros : (n i : ℕ) → ◌≡◌ {A = ℕ} (get_or (replicate n 0) i 0) 0
zeros zero i = refl
zeros (suc n) zero = refl
zeros (suc n) (suc i) = zeros n i

module _ (xs : List ℕ) (a : ℕ) (ys : List ℕ) (h : a ≤ length xs) where
  -- what lies from the part written on
  drop_here : drop a (overwrite xs a ys) ≡ ys ++ drop (length ys) (drop a xs)
  drop_here = drop_at (take a xs) _ a (length-take-le a xs h)

  -- the part written is read back
  pub part_here : (n : ℕ) → length ys ≡ n → take n (drop a (overwrite xs a ys)) ≡ ys
  part_here n e = rw drop_here (take_at ys _ n e)

  -- a part before it is as it was, and so is what lies after it
  pub part_before : (p n : ℕ) → p + n ≤ a → take n (drop p (overwrite xs a ys)) ≡ take n (drop p xs)
  part_before p n l =
      front (ys ++ drop (length ys) (drop a xs))
      ∙ sym (front (drop a xs))
      ∙ ap (λ (zs : List ℕ). take n (drop p zs)) (take-append-drop a xs)
    where
      front : (zs : List ℕ) → take n (drop p (take a xs ++ zs)) ≡ take n (drop p (take a xs))
      front zs =
          let size : length (take a xs) ≡ a = length-take-le a xs h in
          rw (drop-append-le p (take a xs) zs (omega arith))
          (take-append-le n (drop p (take a xs)) zs (omega (arith, length-drop p (take a xs))))

  pub part_after : (p : ℕ) → a + length ys ≤ p → drop p (overwrite xs a ys) ≡ drop p xs
  part_after p l =
      let e : a + (length ys + (p - (a + length ys))) ≡ p = omega arith in
      rw (← e) (simp (← drop-drop, drop_here, drop-append_seam))

-- what is written in the front of a list is written in the list
pub front_written : (k : ℕ) (xs : List ℕ) (a : ℕ) (ys : List ℕ) → a + length ys ≤ k → k ≤ length xs
    → overwrite (take k xs) a ys ++ drop k xs ≡ overwrite xs a ys
front_written k xs a ys h l =
    let size : length (take k xs) ≡ k = length-take-le k xs l in
    let kept : drop (length ys) (drop a (take k xs)) ++ drop k xs ≡ drop (length ys) (drop a xs) =
    rw (drop-drop (length ys) a (take k xs), drop-drop (length ys) a xs)
    (sym (drop-append-le (a + length ys) (take k xs) (drop k xs) (omega arith)) ∙ ap (drop (a + length ys)) (take-append-drop k xs)) in
    append_assoc (take a (take k xs)) _ (drop k xs)
    ∙ rw (append_assoc ys (drop (length ys) (drop a (take k xs))) (drop k xs), kept, take-take a k xs (omega arith))

-- an element afterwards: of the part written, or as it was
module _ (xs : List ℕ) (a : ℕ) (ys : List ℕ) (h : a + length ys ≤ length xs) (x d : ℕ) where
  pub at_written : a ≤ x → x < a + length ys → get_or (overwrite xs a ys) x d ≡ get_or ys (x - a) d
  at_written l u =
      let size : length (take a xs) ≡ a = length-take-le a xs (omega arith) in
      let place : length (take a xs) + (x - a) ≡ x = omega arith in
      ap (λ (i : ℕ). get_or (overwrite xs a ys) i d) (sym place)
      ∙ get_or-append-add (take a xs) (ys ++ drop (length ys) (drop a xs)) (x - a) d
      ∙ get_or-append ys (drop (length ys) (drop a xs)) d (x - a) (omega arith)

  pub at_before : x < a → get_or (overwrite xs a ys) x d ≡ get_or xs x d
  at_before l =
      let size : length (take a xs) ≡ a = length-take-le a xs (omega arith) in
      get_or-append (take a xs) (ys ++ drop (length ys) (drop a xs)) d x (omega arith) ∙ get_or-take a xs x d l

  pub at_after : a + length ys ≤ x → get_or (overwrite xs a ys) x d ≡ get_or xs x d
  at_after l =
      let place : x + 0 ≡ x = omega arith in
      rw (← place) (sym (get_or-drop x (overwrite xs a ys) 0 d) ∙ ap (λ (zs : List ℕ). get_or zs 0 d) (part_after xs a ys (omega arith) x l) ∙ get_or-drop x xs 0 d)
