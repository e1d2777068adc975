-- Who votes, and that two who vote agree where their groups are one.
use Prim.Native.Nat.{ℕ, ◌+◌, ◌-◌, ◌*◌, ◌/◌, ◌%◌, ◌^◌, ◌≤◌, ◌<◌, min}
use native.Mathlib.Nat.{zero-add}
use native.Mathlib.Decide.{dec_lt}
use native.Mathlib.Omega.{arith}
use mathlib.Core.Path.{◌≡◌, refl, sym, ap, ap₂, ◌∙◌}
use mathlib.Core.Bool.{Bool, true, false, ◌&&◌, and-true, and-false, and_self, and_comm, and-eq-true_iff}
use mathlib.Core.List.{List, [], ◌∷◌}
use mathlib.Core.Logic.{◌↔◌}
use lib.ListN.{get_or, set, replicate}
use lib.Dec.{eqb, ltb}
use borrow.Author.Tests.{eqb-true, eq-eqb, ltb-true, lt-ltb}
use Rattle.search.specs.First.{first}
use Rattle.search.specs.Tabulate.{tabulate}
use Rattle.search.proofs.First.{first_range, first_passes, first_le, first_ge, first_holds}
use Rattle.search.proofs.Tabulate.{tabulate_at, tabulate_length, tabulate_same}
use Rattle.alike.specs.Alike.{alike}
use Rattle.alike.proofs.Equal.{alike_self, alike_equal, same_truth}
use Rattle.vote.specs.Decide.{first_of, block_in, agree, row, agreements}
use Rattle.elect.specs.Leader.{digits, votes, mask_of, row_of, instead}
use Rattle.elect.proofs.Rows.{row_mask}
use Rattle.vote.specs.declared.Places.{Places}
use Rattle.vote.specs.Groups.{Placed, group_of, groups_of, together}
use Rattle.elect.proofs.Tables.{Filled, filled_none, filled_more, filled_all, replaced_set}

-- two comparisons that come to the same
pub same_ltb : (a b x y : ℕ) → (a < b → x < y) → (x < y → a < b) → ltb a b ≡ ltb x y
same_ltb a b x y f g = same_truth _ _ (λ h. lt-ltb _ _ (f (ltb-true _ _ h))) (λ h. lt-ltb _ _ (g (ltb-true _ _ h)))

-- the first k as a mask, one computation for every k
first_masks : tabulate (λ k. 1 * 2 ^ k % 2 ^ 32 - 1) 0 17 ≡ tabulate (λ k. mask_of (first_of k)) 0 17
unfolding tabulate digits
first_masks = refl

-- of more than there can be, all
pub first_mask : (k : ℕ) → 1 * 2 ^ min k 16 % 2 ^ 32 - 1 ≡ mask_of (first_of k)
first_mask k =
    sym (tabulate_at (λ k. 1 * 2 ^ k % 2 ^ 32 - 1) 0 17 (min k 16) (omega arith))
    ∙ ap (λ (masks : List ℕ). get_or masks (min k 16) 0) first_masks
    ∙ tabulate_at (λ k. mask_of (first_of k)) 0 17 (min k 16) (omega arith)
    ∙ ap mask_of (tabulate_same _ _ 0 16 0 (λ r l m. same_ltb r (min k 16) r k (λ h. omega arith) (λ h. omega arith)))

-- they have k votes
first_counts : tabulate (λ k. votes (first_of k)) 0 17 ≡ tabulate (λ k. k) 0 17
unfolding tabulate digits
first_counts = refl

pub first_votes : (k : ℕ) → k ≤ 16 → votes (first_of k) ≡ k
first_votes k l =
    sym (tabulate_at (λ k. votes (first_of k)) 0 17 k (omega arith))
    ∙ ap (λ (counts : List ℕ). get_or counts k 0) first_counts
    ∙ tabulate_at (λ k. k) 0 17 k (omega arith)

-- and as a row again
pub first_row : (k : ℕ) → row_of (mask_of (first_of k)) ≡ first_of k
first_row k = row_mask (first_of k) (tabulate_length (λ r. ltb r k) 0 16)

-- a bit of the mask is an entry of the row
pub row_bit : (voting r : ℕ) → r < 16 → eqb (voting / 2 ^ r % 2) 1 ≡ get_or (row_of voting) r false
row_bit voting r l = sym (tabulate_at (λ r. eqb (voting / 2 ^ r % 2) 1) false 16 r l)

-- all entries are passed
pub row_done : (voting : List Bool) (groups : List ℕ) (i : ℕ) {n : ℕ} {out : List Bool}
    → Filled (together voting groups i) (λ _. false) out n → 16 ≤ n → out ≡ tabulate (together voting groups i) 0 16
row_done voting groups i filled l = filled_all filled false (λ j a b. absurd (omega arith))

-- the replica does not vote
pub row_out : (voting : List Bool) (groups : List ℕ) (i : ℕ) → get_or voting i false ≡ false
    → replicate 16 false ≡ tabulate (together voting groups i) 0 16
row_out voting groups i e = filled_all filled_none false (λ j a b. rw e)

module _ (voting : List Bool) (block : ℕ → List ℕ) where
  -- ---- to agree

  -- who does not vote agrees with nobody
  pub out_agrees : (i j : ℕ) → get_or voting i false ≡ false → agree voting block i j ≡ false
  out_agrees i j e = rw e

  pub agrees_out : (i j : ℕ) → get_or voting j false ≡ false → agree voting block i j ≡ false
  agrees_out i j e = rw (e, and-false)

  -- who votes agrees with itself
  pub agree_self : (i : ℕ) → agree voting block i i ≡ get_or voting i false
  agree_self i = rw (alike_self, and-true, and_self)

  -- two agree both ways
  pub agree_both : (i j : ℕ) → agree voting block i j ≡ true → agree voting block j i ≡ true
  agree_both i j h =
      let (both, same) = (and-eq-true_iff (get_or voting i false && get_or voting j false) (alike (block i) (block j))).0 h in
      rw (alike_equal (block i) (block j) same, alike_self, and_comm (get_or voting j false) (get_or voting i false), both)

  -- who agrees has the same row
  pub agree_same : (i j r : ℕ) → agree voting block i j ≡ true → agree voting block i r ≡ agree voting block j r
  agree_same i j r h =
      let (both, same) = (and-eq-true_iff (get_or voting i false && get_or voting j false) (alike (block i) (block j))).0 h in
      let (p, q) = (and-eq-true_iff (get_or voting i false) (get_or voting j false)).0 both in
      rw (p, q, alike_equal (block i) (block j) same)

  -- ---- groups

  abbrev group : ℕ → ℕ
  group = group_of voting block

  -- a group's number is no higher than the replica's
  pub group_le : (i : ℕ) → group i ≤ i
  group_le i = omega (arith, first_range (λ r. agree voting block r i) 0 i)

  -- who does not vote is its own
  pub group_out : (i : ℕ) → get_or voting i false ≡ false → i ≡ group i
  group_out i e =
      omega (arith, group_le i, first_ge (λ r. agree voting block r i) 0 i i (omega arith) (λ r l h. agrees_out r i e))

  -- who votes agrees with its group
  group_agrees : (i : ℕ) → agree voting block i i ≡ true → agree voting block (group i) i ≡ true
  group_agrees i h = first_holds (λ r. agree voting block r i) 0 i (rw zero-add h)

  -- of two that agree none has a higher one
  group_same : (i j : ℕ) → agree voting block i j ≡ true → group i ≤ group j
  group_same i j h =
      let back : agree voting block j i ≡ true = agree_both i j h in
      let own : agree voting block (group j) j ≡ true = group_agrees j (agree_same j i j back ∙ h) in
      first_le (λ r. agree voting block r i) 0 i (group j) (omega arith) (agree_same (group j) j i own ∙ back)

  -- two of one group agree, if the one votes
  group_one : (i j : ℕ) → get_or voting i false ≡ true → group i ≡ group j → agree voting block i j ≡ true
  group_one i j p e =
      let own : agree voting block (group j) i ≡ true = rw (← e) (group_agrees i (agree_self i ∙ p)) in
      let through : agree voting block i j ≡ agree voting block (group j) j = sym (agree_same (group j) i j own) in
      elim (dec_lt (group j) j) [
        | yes l ↦ through ∙ first_passes (λ r. agree voting block r j) 0 j (omega arith)
        | no l ↦ let q : group j ≡ j = omega (arith, group_le j) in agree_both j i (rw q at own)
      ]

  together_agree : (i j : ℕ) → get_or voting i false && eqb (group i) (group j) ≡ agree voting block i j
  together_agree i j =
      same_truth _ _
      (λ h. let (p, e) = (and-eq-true_iff (get_or voting i false) (eqb (group i) (group j))).0 h in group_one i j p (eqb-true _ _ e))
      (λ h.
      let same : group i ≡ group j = omega (arith, group_same i j h, group_same j i (agree_both i j h)) in
      let votes : get_or voting i false ≡ true = sym (agree_self i) ∙ agree_same i j i h ∙ agree_both i j h in
      ap₂ ◌&&◌ votes (eq-eqb (group i) (group j) same))

  -- the row of a replica, as the code has it
  pub agree_row : {groups : List ℕ} {i : ℕ} {out : List Bool} → i < 16 → groups ≡ groups_of voting block
      → out ≡ tabulate (together voting groups i) 0 16 → out ≡ row voting block i
  agree_row {i = i} l e q =
      q
      ∙ rw
      e
      (tabulate_same _ _ 0 16 0
      (λ j o m. rw (tabulate_at group 0 16 i l, tabulate_at group 0 16 j (omega arith)) (together_agree i j)))

  -- a replica that does not vote agrees with none
  pub alone : (i : ℕ) → get_or voting i false ≡ false → replicate 16 false ≡ row voting block i
  unfolding tabulate
  alone i h = rw h

  -- ---- replicas one after another

  -- none but the first looked at yet
  pub groups_none : Filled group (λ j. j) (0 ∷ 1 ∷ 2 ∷ 3 ∷ 4 ∷ 5 ∷ 6 ∷ 7 ∷ 8 ∷ 9 ∷ 10 ∷ 11 ∷ 12 ∷ 13 ∷ 14 ∷ 15 ∷ []) 1
  unfolding first tabulate
  groups_none =
      record {
        size = refl;
        front = λ d j l. let z : j ≡ 0 = omega arith in rw z;
        rest = λ d j l m. tabulate_at (λ j. j) d 16 j m;
      }

  -- the next one's number is found at its place alone
  pub groups_own : {out : List ℕ} {i : ℕ} → Filled group (λ j. j) out i → (j : ℕ) → j < 16 → (get_or out j 0 ≡ i) ↔ (j ≡ i)
  groups_own {i = i} filled j m = (
    λ e. elim (dec_lt j i) [
      | yes l ↦ absurd (omega (arith, filled.front 0 j l, group_le j))
      | no l ↦ omega (arith, filled.rest 0 j (omega arith) m)
    ],
    λ e. filled.rest 0 j (omega arith) m ∙ e,
  )

-- ---- loops over them

module _ {voting : List Bool} {outputs : List ℕ} {p : Places} (placed : Placed voting outputs p) where
  abbrev block : ℕ → List ℕ
  block = block_in outputs p

  -- one more is put into its group
  pub groups_more : {out next : List ℕ} {i v : ℕ} → Filled (group_of voting block) (λ j. j) out i → i < p.replicas
      → v ≡ group_of voting block i → next ≡ tabulate (λ j. instead i v (get_or out j 0)) 0 16
      → Filled (group_of voting block) (λ j. j) next (i + 1)
  groups_more {out} {next} {i} {v} filled l e q =
      let few : i < 16 = omega (arith, placed.few) in
      rw (q ∙ replaced_set out i v filled.size few (groups_own voting block filled)) (filled_more filled few e)

  -- who is past them is its own
  pub groups_all : {out : List ℕ} {n : ℕ} → Filled (group_of voting block) (λ j. j) out n → p.replicas ≤ n
      → out ≡ groups_of voting block
  groups_all filled l =
      filled_all filled 0 (λ j a b. group_out voting block j (placed.none_past j (omega arith)))

  -- one more row is that of the table
  pub rows_more : {groups : List ℕ} {out : List (List Bool)} {next : List Bool} {i : ℕ}
      → Filled (row voting block) (λ _. replicate 16 false) out i → i < p.replicas → groups ≡ groups_of voting block
      → next ≡ tabulate (together voting groups i) 0 16
      → Filled (row voting block) (λ _. replicate 16 false) (set out i next) (i + 1)
  rows_more {i = i} filled l e q =
      let few : i < 16 = omega (arith, placed.few) in
      filled_more filled few (agree_row voting block few e q)

  -- who is past them agrees with none
  pub rows_all : {out : List (List Bool)} {n : ℕ} → Filled (row voting block) (λ _. replicate 16 false) out n
      → p.replicas ≤ n → out ≡ agreements voting block
  rows_all filled l = filled_all filled [] (λ j a b. alone voting block j (placed.none_past j (omega arith)))
