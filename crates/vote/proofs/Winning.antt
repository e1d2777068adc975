-- Who wins a count: those who share the winning content, and so a majority.
use Prim.Native.Nat.{ℕ, ◌*◌, ◌≤◌, ◌<◌}
use native.Mathlib.Omega.{arith}
use mathlib.Core.Path.{◌≡◌, refl, sym, ap, ◌∙◌}
use mathlib.Core.Bool.{Bool, true, false, ◌&&◌, and-eq-true_iff}
use mathlib.Core.List.{List, []}
use lib.ListN.{get_or}
use lib.Dec.{ltb}
use borrow.Author.Tests.{ltb-false, le-ltb}
use Rattle.search.specs.Tabulate.{tabulate}
use Rattle.search.proofs.Tabulate.{tabulate_at, tabulate_same}
use Rattle.alike.specs.Alike.{alike}
use Rattle.alike.proofs.Equal.{alike_equal}
use Rattle.answer.specs.declared.Refusal.TheVariants.{NoAgreement}
use Rattle.elect.specs.Leader.{most, votes, leader}
use Rattle.elect.proofs.Rows.{Apart, votes_apart}
use Rattle.elect.proofs.Leading.{leader_le, leader_most}
use Rattle.vote.specs.Decide.{won, lost, agree, sharing, row, agreements, count}
use Rattle.vote.proofs.Comparing.{agree_self, agree_both, agree_same}
use Rattle.vote.proofs.Decision.{says_no, row_at_lem, row_own, row_same}

module _ (voting : List Bool) (block : ℕ → List ℕ) where
  abbrev table : List (List Bool)
  table = agreements voting block

  abbrev best : ℕ
  best = leader table most

  best_lt : best < 16
  best_lt = omega (arith, leader_le table most)

  -- ---- who shares a content

  -- the row of one who votes is those who share its content
  row_sharing : (i : ℕ) → get_or voting i false ≡ true → row voting block i ≡ sharing voting block (block i)
  row_sharing i h = tabulate_same _ _ 0 16 0 (λ r l m. rw h)

  -- only who votes shares one
  pub sharing_votes : (content : List ℕ) (r : ℕ) → get_or voting r false ≡ false → get_or (sharing voting block content) r false ≡ false
  sharing_votes content r e = says_no (λ r. get_or voting r false && alike content (block r)) r (rw e)

  -- a count that is won is won by all who share a voter's content, two or more
  pub record WonBy (winners : List Bool) (content : List ℕ) : Type 0 where
    pub who : ℕ
    pub votes_too : get_or voting who false ≡ true
    pub what : content ≡ block who
    pub all : winners ≡ sharing voting block content
    pub two : 2 ≤ votes winners

  pub count_cases : {P : Type 0} → (count voting block ≡ lost NoAgreement → P)
      → ((winners : List Bool) (content : List ℕ) → count voting block ≡ won winners content → WonBy winners content → P)
      → P
  unfolding count
  count_cases {P} none some = go (ltb (votes (get_or table best [])) 2) refl none some
    where
      go : (t : Bool) → ltb (votes (get_or table best [])) 2 ≡ t
          → (elim t [ true ↦ lost NoAgreement | false ↦ won (get_or table best []) (block best) ] ≡ lost NoAgreement → P)
          → ((winners : List Bool) (content : List ℕ)
          → elim t [ true ↦ lost NoAgreement | false ↦ won (get_or table best []) (block best) ] ≡ won winners content
          → WonBy winners content → P)
          → P
      go true q none some = none refl
      go false q none some =
          let two : 2 ≤ votes (get_or table best []) = ltb-false _ _ q in
          let votes_too : get_or voting best false ≡ true =
          sym (agree_self voting block best)
          ∙ sym (tabulate_at (agree voting block best) false 16 best best_lt)
          ∙ ap (λ (l : List Bool). get_or l best false) (sym (row_at_lem voting block best best_lt))
          ∙ row_own voting block best best_lt (omega arith) in
          some (get_or table best []) (block best) refl record {
            who = best;
            votes_too = votes_too;
            what = refl;
            all = row_at_lem voting block best best_lt ∙ row_sharing best votes_too;
            two = two;
          }

  -- ---- a majority

  -- who agrees votes, both of them
  agree_votes : (i j : ℕ) → agree voting block i j ≡ true → get_or voting j false ≡ true
  agree_votes i j h =
      let (both, same) = (and-eq-true_iff (get_or voting i false && get_or voting j false) (alike (block i) (block j))).0 h in
      ((and-eq-true_iff (get_or voting i false) (get_or voting j false)).0 both).1

  -- who agree with one are not who agree with another, where these two do not
  rows_apart : (i j : ℕ) → agree voting block i j ≡ false → (r : ℕ)
      → Apart (agree voting block i r) (agree voting block j r) (get_or voting r false)
  rows_apart i j differ r =
      record {
        never = λ a b.
            let both : agree voting block i j ≡ true = agree_same voting block i r j a ∙ agree_both voting block j r b in
            let z : ◌≡◌ {A = ℕ} 0 1 = cc in
            omega arith;
        first = agree_votes i r;
        second = agree_votes j r;
      }

  -- a content that more than half of those who vote share wins
  pub count_majority : (i : ℕ) → i < 16 → get_or voting i false ≡ true → 2 ≤ votes (sharing voting block (block i))
      → votes (tabulate (λ r. get_or voting r false) 0 most) < 2 * votes (sharing voting block (block i))
      → count voting block ≡ won (sharing voting block (block i)) (block i)
  unfolding count
  count_majority i few h two more =
      let own : get_or table i [] ≡ sharing voting block (block i) = row_at_lem voting block i few ∙ row_sharing i h in
      let leads : votes (sharing voting block (block i)) ≤ votes (get_or table best []) = rw (← own) (leader_most table most i (omega arith)) in
      go (agree voting block best i) refl own leads
    where
      go : (t : Bool) → agree voting block best i ≡ t → get_or table i [] ≡ sharing voting block (block i)
          → votes (sharing voting block (block i)) ≤ votes (get_or table best []) → count voting block ≡ won (sharing voting block (block i)) (block i)
      go true e own leads =
          let (both, alike-too) = (and-eq-true_iff (get_or voting best false && get_or voting i false) (alike (block best) (block i))).0 e in
          let what : block best ≡ block i = alike_equal _ _ alike-too in
          let in_row : get_or (get_or table best []) i false ≡ true =
          rw (row_at_lem voting block best best_lt) (tabulate_at (agree voting block best) false 16 i few ∙ e) in
          let same : get_or table best [] ≡ sharing voting block (block i) = sym (row_same voting block best best_lt i few in_row) ∙ own in
          rw (le-ltb (votes (get_or table best [])) 2 (omega arith), count, same, what)
      go false e own leads =
          let apart = votes_apart (rows_apart best i e) 0 most in
          let left : votes (get_or table best []) ≡ votes (tabulate (agree voting block best) 0 most) =
          ap votes (row_at_lem voting block best best_lt) in
          let right : votes (sharing voting block (block i)) ≡ votes (tabulate (agree voting block i) 0 most) =
          ap votes (sym (row_sharing i h)) in
          absurd (omega arith)
