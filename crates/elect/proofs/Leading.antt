-- The leader of a table, one replica after another.
use Prim.Native.Nat.{ℕ, zero, suc, ◌+◌, ◌-◌, ◌≤◌, ◌<◌}
use native.Mathlib.Numerals.{add-one}
use native.Mathlib.Decide.{ℕ_discrete, dec_lt}
use native.Mathlib.Omega.{arith}
use mathlib.Core.Path.{◌≡◌, refl, sym, ap, ◌∙◌}
use mathlib.Core.Bool.{Bool, true, false}
use mathlib.Core.List.{List, []}
use lib.ListN.{get_or}
use lib.Dec.{ltb}
use borrow.Author.Tests.{lt-ltb, le-ltb, ltb-true, ltb-false}
use Rattle.search.specs.First.{first}
use Rattle.search.proofs.First.{first_le, first_passes}
use Rattle.elect.specs.Leader.{most, leader, votes, lowest_of}

abbrev votes_of : List (List Bool) → ℕ → ℕ
votes_of table i = votes (get_or table i [])

-- the leader is one of those that it leads
pub leader_le : (table : List (List Bool)) (n : ℕ) → leader table n ≤ n - 1
unfolding leader
leader_le table zero = omega arith
leader_le table (suc n) =
    go (ltb (votes_of table (leader table n)) (votes_of table n)) (leader_le table n)
  where
    go : (t : Bool) → leader table n ≤ n - 1 → elim t [ true ↦ n | false ↦ leader table n ] ≤ suc n - 1
    go true rest = omega arith
    go false rest = omega arith

module _ (table : List (List Bool)) where
  -- replica i has no more votes than the best, and fewer where it comes before it
  abbrev Below : ℕ → ℕ → Type 0
  Below best i = (votes_of table i ≤ votes_of table best) × (i < best → votes_of table i < votes_of table best)

  below_leader : (n i : ℕ) → i < n → Below (leader table n) i
  unfolding leader
  below_leader zero i h = absurd (omega arith)
  below_leader (suc n) i h = go (ltb (votes_of table (leader table n)) (votes_of table n)) refl (below_leader n i)
    where
      go : (t : Bool) → ltb (votes_of table (leader table n)) (votes_of table n) ≡ t → (i < n → Below (leader table n) i)
          → Below (elim t [ true ↦ n | false ↦ leader table n ]) i
      go true e rest = elim (ℕ_discrete i n) [
        | yes q ↦ rw q (omega arith, λ l. absurd (omega arith))
        | no q ↦
            let more : votes_of table (leader table n) < votes_of table n = ltb-true _ _ e in
            let less : votes_of table i < votes_of table n = omega (arith, (rest (omega arith)).0) in
            (omega arith, λ l. less)
      ]
      go false e rest = elim (ℕ_discrete i n) [
        | yes q ↦ rw q (ltb-false _ _ e, λ l. absurd (omega (arith, leader_le table n)))
        | no q ↦ rest (omega arith)
      ]

  -- nobody has more votes than the leader
  pub leader_most : (n i : ℕ) → i < n → votes_of table i ≤ votes_of table (leader table n)
  leader_most n i h = (below_leader n i h).0

  -- where all in its row have that row, and it is one of them, the leader is the lowest of them
  pub leader_lowest : let best = leader table most in
      let row = get_or table best [] in
      get_or row best false ≡ true
      → ((r : ℕ) → r < most → get_or row r false ≡ true → get_or table r [] ≡ row)
      → lowest_of row ≡ best
  leader_lowest own same =
      let best : ℕ = leader table most in
      let in_row : ℕ → Bool = λ r. get_or (get_or table best []) r false in
      let low : ℕ = first in_row 0 most in
      let few : best < most = omega (arith, leader_le table most) in
      let upto : low ≤ best = first_le in_row 0 most best (omega arith) own in
      let also : in_row low ≡ true = first_passes in_row 0 most (omega arith) in
      let as_many : votes_of table low ≡ votes_of table best = ap votes (same low (omega arith) also) in
      elim (dec_lt low best) [
        | yes l ↦ absurd (omega (arith, (below_leader most low (omega arith)).1 l))
        | no l ↦ omega arith
      ]

-- replicas without votes do not lead after others
pub leader_front : (table : List (List Bool)) (k n : ℕ) → 0 < k → k ≤ n
    → ((i : ℕ) → k ≤ i → i < n → votes_of table i ≡ 0) → leader table n ≡ leader table k
unfolding leader
leader_front table k zero h l none = absurd (omega arith)
leader_front table k (suc n) h l none = elim (ℕ_discrete k (suc n)) [
  | yes e ↦ rw e
  | no e ↦
      rw (none n (omega arith) (omega arith), le-ltb (votes_of table (leader table n)) 0 (omega arith), leader)
      (leader_front table k n h (omega arith) (λ i a b. none i a (omega arith)))
]

-- ---- the loop that finds it

-- the votes of the leader of the first i replicas; of none, 0
abbrev pub top_votes : List (List Bool) → ℕ → ℕ → ℕ
top_votes table best zero = 0
top_votes table best (suc i) = votes_of table best

-- the leader of the first i replicas, with its votes
pub record Led (table : List (List Bool)) (best top i : ℕ) : Type 0 where
  pub first : best ≡ leader table i
  pub has : top ≡ top_votes table best i

-- none passed yet
pub led_none : {table : List (List Bool)} → Led table 0 0 0
unfolding leader
led_none = record { first = refl; has = refl }

-- who is alone leads, and of none the first
leader_one : (table : List (List Bool)) → leader table 1 ≡ 0
unfolding leader
leader_one table = rw (le-ltb (votes_of table 0) (votes_of table 0) (omega arith), leader)

leader_none : (table : List (List Bool)) → leader table 0 ≡ 0
unfolding leader
leader_none table = refl

module _ {table : List (List Bool)} where
  -- the next replica leads if it has more votes; if it has not, who led leads on
  pub led_new : {best top i : ℕ} → Led table best top i → {v : ℕ} → v ≡ votes_of table i → top < v → Led table i v (i + 1)
  unfolding leader
  led_new {i = zero} l e m = record { first = sym (leader_one table); has = e }
  led_new {i = suc i} l e m =
      rw add-one record { first = sym (rw (lt-ltb _ _ (rw (l.has, l.first, e) at m), leader)); has = e }

  pub led_old : {best top i : ℕ} → Led table best top i → {v : ℕ} → v ≡ votes_of table i → v ≤ top → Led table best top (i + 1)
  unfolding leader
  led_old {i = zero} l e m =
      let none : ◌≡◌ {A = ℕ} _ 0 = l.first in
      rw none record { first = sym (leader_one table); has = omega (arith, e, l.has) }
  led_old {i = suc i} l e m =
      rw add-one record { first = sym (rw (le-ltb _ _ (rw (l.has, l.first, e) at m), leader) (sym l.first)); has = l.has }

module _ {table : List (List Bool)} {best top i : ℕ} (l : Led table best top i) where
  pub led_le : best ≤ i - 1
  led_le = omega (arith, leader_le table i, l.first)

  pub led_votes : 0 < i → top ≡ votes_of table best
  led_votes h = go i h l.has
    where
      go : (i : ℕ) → 0 < i → top ≡ top_votes table best i → top ≡ votes_of table best
      go zero h e = absurd (omega arith)
      go (suc i) h e = e

  -- all k are passed
  pub led_all : {k : ℕ} → k ≤ i → 0 < i → i - 1 ≤ k - 1 → best ≡ leader table k
  led_all {k} h g m = go k h m
    where
      go : (k : ℕ) → k ≤ i → i - 1 ≤ k - 1 → best ≡ leader table k
      go zero h m = let one : i ≡ 1 = omega arith in l.first ∙ rw one (leader_one table ∙ sym (leader_none table))
      go (suc k) h m = let all : i ≡ suc k = omega arith in rw all at l.first
