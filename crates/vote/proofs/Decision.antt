-- A vote's decision from what the code finds.
use Prim.Native.Nat.{ℕ, ◌+◌, ◌*◌, ◌/◌, ◌%◌, ◌^◌, ◌≤◌, ◌<◌, min}
use native.Mathlib.Nat.{suc-mul, mul-le-mul_right, div-eq_of_lt}
use native.Mathlib.Decide.{dec_lt}
use native.Mathlib.Omega.{arith}
use mathlib.Core.Path.{◌≡◌, refl, sym, ◌∙◌}
use mathlib.Core.Logic.{◌↔◌}
use mathlib.Core.Bool.{Bool, true, false, true≢false, ◌||◌}
use mathlib.Core.List.{List, [], ◌++◌}
use lib.ListN.{length, get_or, take, drop, length-take, length-drop, get_or-eq_default}
use lib.Seq.{take_all}
use lib.Dec.{ltb, eqb}
use lib.Pow.{pow_mono}
use borrow.Author.Tests.{lt-ltb, le-ltb, ltb-true, ltb-false, eqb-true, eq-eqb, not-false}
use Rattle.answer.specs.declared.Refusal.TheVariants.{NoAgreement}
use Rattle.search.specs.Tabulate.{tabulate}
use Rattle.search.proofs.Tabulate.{tabulate_at, tabulate_length, tabulate_same}
use Rattle.writing.specs.Overwrite.{overwrite}
use Rattle.vote.specs.declared.Places.{Places}
use Rattle.elect.specs.declared.Elected.{Elected}
use Rattle.elect.specs.Leader.{most, votes, mask_of, row_of, lowest_of, leader, elected_of}
use Rattle.elect.proofs.Rows.{digits_none, digits_front}
use Rattle.elect.proofs.Leading.{leader_le, leader_front, leader_lowest}
use Rattle.vote.specs.Groups.{Placed, Countable, winner_of, elects}
use Rattle.vote.specs.Decide.{first_of, block_in, agree, row, agreements}
use Rattle.vote.specs.Decide.{invalid, won, lost, count, side_by_side, misplaced, step, tally, tally_of}
use Rattle.std.specs.Prelude.{Ok, Err}
use Rattle.vote.proofs.Comparing.{out_agrees, agrees_out, agree_self, agree_same}

-- ---- the table

-- where a test does not pass, its row says no, past the end too
pub says_no : (f : ℕ → Bool) (j : ℕ) → f j ≡ false → get_or (tabulate f 0 16) j false ≡ false
says_no f j e = elim (dec_lt j 16) [
  | yes l ↦ tabulate_at f false 16 j l ∙ e
  | no l ↦ get_or-eq_default (tabulate f 0 16) false (omega (arith, tabulate_length f 0 16))
]

module _ (voting : List Bool) (block : ℕ → List ℕ) where
  abbrev row_at : ℕ → List Bool
  row_at i = get_or (agreements voting block) i []

  pub row_at_lem : (i : ℕ) → i < 16 → row_at i ≡ row voting block i
  row_at_lem i few = tabulate_at (row voting block) [] 16 i few

  -- who does not vote has nobody in its row, and is in no row
  row_out : (i : ℕ) → i < 16 → get_or voting i false ≡ false → (j : ℕ) → get_or (row_at i) j false ≡ false
  row_out i few e j = rw (row_at_lem i few) (says_no (agree voting block i) j (out_agrees voting block i j e))

  out_row : (i : ℕ) → i < 16 → (j : ℕ) → get_or voting j false ≡ false → get_or (row_at i) j false ≡ false
  out_row i few j e = rw (row_at_lem i few) (says_no (agree voting block i) j (agrees_out voting block i j e))

  -- who has a vote votes, and agrees with itself
  pub row_own : (i : ℕ) → i < 16 → 1 ≤ votes (row_at i) → get_or (row_at i) i false ≡ true
  row_own i few h =
      rw (row_at_lem i few, tabulate_at (agree voting block i) false 16 i few, agree_self voting block i)
      (go (get_or voting i false) refl)
    where
      go : (t : Bool) → get_or voting i false ≡ t → t ≡ true
      go true e = refl
      go false e = absurd (omega (arith, digits_none 1 (row_at i) (row_out i few e)))

  -- who is in a row has that row
  pub row_same : (i : ℕ) → i < 16 → (j : ℕ) → j < 16 → get_or (row_at i) j false ≡ true → row_at j ≡ row_at i
  row_same i few j l h =
      let agrees : agree voting block i j ≡ true =
      sym (tabulate_at (agree voting block i) false 16 j l) ∙ rw (row_at_lem i few) at h in
      rw (row_at_lem i few, row_at_lem j l) (tabulate_same _ _ 0 16 0 (λ r m n. sym (agree_same voting block i j r agrees)))

  -- so the leader, if it has a vote, is the lowest of those in its row
  row_lowest : let best = leader (agreements voting block) most in 1 ≤ votes (row_at best) → lowest_of (row_at best) ≡ best
  row_lowest h =
      let best : ℕ = leader (agreements voting block) most in
      let few : best < 16 = omega (arith, leader_le (agreements voting block) most) in
      leader_lowest (agreements voting block) (row_own best few h) (row_same best few)

-- past the replicas nobody votes
pub counted : {voting : List Bool} {outputs : List ℕ} {p : Places} → Placed voting outputs p
    → Countable (agreements voting (block_in outputs p)) p.replicas
counted {voting} {outputs} {p} a =
    record {
      some = a.some;
      few = a.few;
      rows = λ i j l h. row_out voting (block_in outputs p) i l (a.none_past i h) j;
      columns = λ i j l h. out_row voting (block_in outputs p) i l j (a.none_past j h);
    }

-- so who leads the replicas leads all, and all who agree with it are among them
pub elected_wins : {table : List (List Bool)} {k : ℕ} → Countable table k → {w : Elected} → w ≡ elected_of table (min k most)
    → (w ≡ winner_of table) × (w.replica < k)
elected_wins {table} {k} c e =
    let all : min k most ≡ k = omega (arith, c.few) in
    let leads : leader table most ≡ leader table k =
    leader_front table k most c.some c.few (λ i a b. digits_none 1 _ (λ j. c.rows i j b a)) in
    let low : leader table k < k = omega (arith, c.some, leader_le table k) in
    let mask : mask_of (take k (get_or table (leader table k) [])) ≡ mask_of (get_or table (leader table k) []) =
    digits_front 2 _ k (λ j. c.columns _ j (omega (arith, c.few))) in
    let found = rw all at e in
    (found ∙ rw (leads, mask), rw found low)

pub elected_by : {voting : List Bool} {outputs : List ℕ} {p : Places} → Placed voting outputs p
    → {table : List (List Bool)} → table ≡ agreements voting (block_in outputs p)
    → {w : Elected} → w ≡ elected_of table (min p.replicas most)
    → (w ≡ winner_of (agreements voting (block_in outputs p))) × (w.replica < p.replicas)
elected_by a e f = elected_wins (counted a) (rw e at f)

-- ---- the winner

module _ (voting : List Bool) (block : ℕ → List ℕ) {w : Elected} (e : w ≡ winner_of (agreements voting block)) where
  -- those who agree with it
  abbrev pub winners : List Bool
  winners = row_at voting block w.replica

  -- with one vote at most no two agree
  pub count_lost : w.count < 2 → count voting block ≡ lost NoAgreement
  unfolding count
  count_lost h = rw (lt-ltb _ 2 (rw e at h), count)

  -- and nobody is elected
  pub elects_lost : w.count < 2 → elects (agreements voting block) ≡ Err NoAgreement
  elects_lost h = rw (lt-ltb _ 2 (rw e at h)) refl

  -- with more it is
  pub elects_won : 2 ≤ w.count → elects (agreements voting block) ≡ Ok w
  elects_won h = rw (e, le-ltb _ 2 (rw e at h)) refl

  -- and its block wins
  pub count_won : 2 ≤ w.count → count voting block ≡ won winners (block w.replica)
  unfolding count
  count_won h = rw e (rw (le-ltb _ 2 (rw e at h), count))

  -- and it is the lowest of those who share it
  low : 1 ≤ votes winners → lowest_of winners ≡ w.replica
  low = rw e (row_lowest voting block)

  -- the answer is that of the count
  pub tally_won : 2 ≤ w.count → tally_of (Ok w) ≡ tally (count voting block)
  tally_won h =
      let has : (w.count ≡ votes winners) × (w.mask ≡ mask_of winners) = rw e (refl, refl) in
      rw (count_won h, has.0, has.1, low (omega arith))

-- its block is put to the front of an output
pub count_put : (outputs output : List ℕ) (p : Places) (r : ℕ) → p.len ≤ length output
    → overwrite output 0 (take (length output) (block_in outputs p r))
    ≡ block_in outputs p r ++ drop (length (block_in outputs p r)) output
count_put outputs output p r h =
    let room : length (block_in outputs p r) ≤ length output = simp (length-take, length-drop) (omega arith) in
    rw (take_all (length output) (block_in outputs p r) room)

-- ---- a vote that is allowed

-- a disjunction is false where both sides are
pub neither : (a b : Bool) → (a || b ≡ false) ↔ ((a ≡ false) × (b ≡ false))
neither true b = (λ e. absurd (true≢false e), λ e. e.0)
neither false b = (λ e. (refl, e), λ e. e.1)

-- its numbers
pub record Allowed (limit lent k size room : ℕ) : Type 0 where
  pub several : 3 ≤ k
  pub few : k ≤ 16
  pub some : 0 < size
  pub short : size ≤ limit
  pub whole : lent ≡ k * size
  pub fits : size ≤ room

-- a vote that is not invalid is allowed
pub allowed : {limit lent k size room : ℕ} → invalid limit lent k size room ≡ false → Allowed limit lent k size room
allowed e =
    let facts = simp neither at e in
    record {
      several = omega (arith, ltb-false);
      few = omega (arith, ltb-false);
      some = omega (arith, ltb-false);
      short = omega (arith, ltb-false);
      whole = eqb-true _ _ (not-false _ facts.0.1);
      fits = omega (arith, ltb-false);
    }

-- and the other way round
pub not_invalid : {limit lent k size room : ℕ} → Allowed limit lent k size room → invalid limit lent k size room ≡ false
not_invalid a =
    rw (
      le-ltb _ _ a.several,
      le-ltb _ _ a.few,
      le-ltb _ _ a.some,
      le-ltb _ _ a.short,
      eq-eqb _ _ a.whole,
      le-ltb _ _ a.fits,
    )

-- of k outputs one after another each ends within
pub output_end : {r k : ℕ} (len : ℕ) → r < k → r * len + len ≤ k * len
output_end len h = rw (← suc-mul) (mul-le-mul_right len h)

-- past the first k none votes
pub first_only : (k r : ℕ) → k ≤ r → get_or (first_of k) r false ≡ false
first_only k r h = says_no (λ r. ltb r k) r (le-ltb r k h)

-- its blocks lie side by side
pub placed : (limit room : ℕ) {blocks : List ℕ} {k size : ℕ} → invalid limit (length blocks) k size room ≡ false
    → Placed (first_of k) blocks (side_by_side k size)
placed limit room {blocks} {k} {size} e =
    let a : Allowed limit (length blocks) k size room = allowed e in
    record {
      some = omega (arith, a.several);
      few = a.few;
      none_past = first_only k;
      within = λ r h. omega (arith, a.whole, output_end size h);
    }

-- ---- a step

-- its numbers
pub record Fitting (lent still : ℕ) (p : Places) (room : ℕ) : Type 0 where
  pub some : 0 < p.replicas
  pub few : p.replicas ≤ 16
  pub voters : still < 2 ^ p.replicas
  pub part : p.at + p.len ≤ p.apart
  pub whole : p.replicas * p.apart ≤ lent
  pub fits : p.len ≤ room

-- a step that is not misplaced fits, and the other way round
pub fitting : {lent still : ℕ} {p : Places} {room : ℕ} → misplaced lent still p room ≡ false → Fitting lent still p room
fitting e =
    let facts = simp neither at e in
    record {
      some = omega (arith, ltb-false);
      few = omega (arith, ltb-false);
      voters = ltb-true _ _ (not-false _ facts.0.0.0.1);
      part = omega (arith, ltb-false);
      whole = ltb-false _ _ facts.0.1;
      fits = omega (arith, ltb-false);
    }

not_misplaced : {lent still : ℕ} {p : Places} {room : ℕ} → Fitting lent still p room → misplaced lent still p room ≡ false
not_misplaced f =
    rw (
      le-ltb _ _ f.some,
      le-ltb _ _ f.few,
      lt-ltb _ _ f.voters,
      le-ltb _ _ f.part,
      le-ltb _ _ f.whole,
      le-ltb _ _ f.fits,
    )

-- so that it is a count
pub step_counts : (outputs : List ℕ) {still : ℕ} {p : Places} {room : ℕ} → Fitting (length outputs) still p room
    → step outputs still p room ≡ count (row_of still) (block_in outputs p)
unfolding step
step_counts outputs f = rw (not_misplaced f, step)

-- only those who are there vote
pub voters_only : {still k : ℕ} → still < 2 ^ k → (r : ℕ) → k ≤ r → get_or (row_of still) r false ≡ false
voters_only {still} {k} few r h =
    let none : still / 2 ^ r ≡ 0 = div-eq_of_lt (omega (arith, pow_mono {i = k} {j = r} h)) in
    says_no (λ r. eqb (still / 2 ^ r % 2) 1) r (rw none)

-- and its bytes are there
pub placed_step : (still room : ℕ) {outputs : List ℕ} {p : Places} → misplaced (length outputs) still p room ≡ false
    → Placed (row_of still) outputs p
placed_step still room {outputs} {p} e =
    let f : Fitting (length outputs) still p room = fitting e in
    record {
      some = f.some;
      few = f.few;
      none_past = voters_only f.voters;
      within = λ r h. omega (arith, f.part, f.whole, output_end p.apart h);
    }
