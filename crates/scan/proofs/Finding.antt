-- The first place of a byte as a search of a part finds it.
use Rattle.std.proofs.Common.{◌≡◌, ℕ, ◌+◌, ◌-◌, ◌<◌, ◌≤◌, Bool, true, false, List, [], ◌∷◌, length, drop, take, refl, sym, ap, ◌∙◌, arith, length-take, min, eqb, cond, not}
use Rattle.std.proofs.Math.ListN.{drop_of_length-le}
use Rattle.std.proofs.lemmas.List.{take_min, drop-take}
use Rattle.std.specs.List.{position_or_len}
use Rattle.scan.specs.Bytes.{slice, index_of, index_after}

-- the place that std's search gives
position_is : (b : ℕ) (xs : List ℕ) → position_or_len (λ x. eqb x b) xs ≡ index_of b xs
unfolding index_of index_after
position_is b [] = refl
position_is b (x ∷ xs) = go (eqb x b) (position_is b xs)
  where
    go : (t : Bool) → position_or_len (λ x. eqb x b) xs ≡ index_of b xs
        → cond (not t) (1 + position_or_len (λ x. eqb x b) xs) 0 ≡ index_after t (index_of b xs)
    go true e = refl
    go false e = omega (arith, e)

module _ (b : ℕ) (xs : List ℕ) (from to : ℕ) where
  -- the part, as far as it is there
  part : {end : ℕ} → end ≡ min to (length xs) → from ≤ end → take (end - from) (drop from xs) ≡ slice from to xs
  part {end} e h =
      let sum : from + (end - from) ≡ end = omega arith in
      sym (drop-take from (end - from) xs) ∙ rw (sum, e, take_min)

  pub find_in : {end i : ℕ} → end ≡ min to (length xs) → from ≤ end
      → position_or_len (λ x. eqb x b) (take (end - from) (drop from xs)) ≡ i → i ≡ index_of b (slice from to xs)
  find_in e h p = sym p ∙ ap (position_or_len (λ x. eqb x b)) (part e h) ∙ position_is b (slice from to xs)

  -- a part that starts behind its end is empty
  pub find_nothing : min to (length xs) < from → index_of b (slice from to xs) ≡ 0
  unfolding index_of
  find_nothing h =
      let short : length (take to xs) ≤ from = rw length-take (omega arith) in
      rw (drop_of_length-le (take to xs) short)
