-- The theorems on whole votes: who is left has the output written and nobody else has, what is kept, and a majority wins.
use Prim.Native.Nat.{ℕ, ◌-◌, ◌*◌, ◌≤◌, ◌<◌, min}
use native.Mathlib.Decide.{dec_lt}
use native.Mathlib.Omega.{arith}
use mathlib.Core.Path.{◌≡◌, refl, sym, ap, ap₂, ◌∙◌}
use mathlib.Core.Bool.{Bool, true, false, true≢false, and-eq-true_iff}
use mathlib.Core.List.{List}
use mathlib.Core.Logic.{◌↔◌}
use lib.ListN.{length, get_or, take, drop, length-take, length-drop, take-append-drop}
use lib.Dec.{ltb}
use borrow.Author.Tests.{lt-ltb}
use Rattle.search.proofs.Tabulate.{tabulate_at, tabulate_length}
use Rattle.alike.proofs.Equal.{alike_self, alike_equal}
use Rattle.writing.specs.Overwrite.{overwrite}
use Rattle.answer.specs.declared.Refusal.TheVariants.{InvalidOutputs}
use Rattle.elect.specs.Leader.{most, votes, row_of}
use Rattle.elect.proofs.Rows.{votes_two, row_mask}
use Rattle.vote.specs.declared.Tally.{Tally}
use Rattle.vote.specs.Decide.{longest, first_of, block_in, invalid, count, side_by_side, decide}
use Rattle.vote.specs.Decide.{agreed_by, refused_with, tally, output_after}
use Rattle.vote.proofs.Decision.{Allowed, allowed, not_invalid, first_only, output_end}
use Rattle.vote.proofs.Winning.{count_cases, sharing_votes}
use Rattle.whole.specs.Whole.{longest_output, blocks, block_at, Voted, through, whole}
use Rattle.whole.specs.Outputs.{output_of, having}
use Rattle.whole.proofs.Blocks.{through_lost, through_won}
use Rattle.whole.proofs.Left.{upto_none}
use Rattle.whole.proofs.Ending.{Ended, ended, wins}

-- ---- who has an output

-- the first k vote
first_in : (k r : ℕ) → k ≤ 16 → r < k → get_or (first_of k) r false ≡ true
first_in k r few l = tabulate_at (λ r. ltb r k) false 16 r (omega arith) ∙ lt-ltb r k l

module _ (outputs : List ℕ) (k len : ℕ) (few : k ≤ 16) (output : List ℕ) (r : ℕ) where
  having_bit : (get_or (having outputs k len output) r false ≡ true) ↔ ((r < k) × (output_of outputs len r ≡ output))
  having_bit = (
    λ h. elim (dec_lt r k) [
      | yes l ↦
          let both = sym (tabulate_at _ false 16 r (omega arith)) ∙ h in
          (l, sym (alike_equal _ _ ((and-eq-true_iff (get_or (first_of k) r false) _).0 both).1))
      | no l ↦ absurd (true≢false (sym h ∙ sharing_votes (first_of k) (output_of outputs len) output r (first_only k r (omega arith))))
    ],
    λ (l, e).
        tabulate_at _ false 16 r (omega arith)
        ∙ rw (first_in k r few l, e) (alike_self output),
  )

-- ---- the theorems

module _ (outputs : List ℕ) (k len : ℕ) (out : List ℕ) where
  abbrev voted : Voted
  voted = whole outputs k len out

  -- the numbers are not allowed, or all blocks are voted on
  data Course : Type 0 where
    wrong : voted ≡ record { answer = refused_with InvalidOutputs 0; output = out } → Course
    right : Allowed longest_output (length outputs) k len (length out)
        → voted ≡ through outputs k len (blocks len) 0 (first_of k) out → Course

  course : Course
  unfolding whole
  course = go (invalid longest_output (length outputs) k len (length out)) refl
    where
      go : (t : Bool) → invalid longest_output (length outputs) k len (length out) ≡ t → Course
      go true e = wrong (rw (e, whole))
      go false e = right (allowed e) (rw (e, whole))

  -- so it ends
  through_ended : (a : Allowed longest_output (length outputs) k len (length out))
      → Ended outputs k len a.whole 0 out (through outputs k len (blocks len) 0 (first_of k) out)
  through_ended a = ended outputs k len a.whole (blocks len) 0 (first_of k) out (omega arith) (upto_none outputs k len out) a.fits

  -- After a served whole vote the answer is that of those whose output is the output written.
  pub left_shares : voted.answer.number ≡ 0 → voted.answer ≡ agreed_by (having outputs k len (take len voted.output))
  left_shares = elim course [
    | wrong e ↦ λ z. let n : ◌≡◌ {A = ℕ} 15 0 = rw e at z in absurd (omega arith)
    | right a e ↦ rw e (through_ended a).left
  ]

  -- So a replica is in the mask exactly when its output is the output written.
  pub left_exactly : voted.answer.number ≡ 0 → (r : ℕ)
      → (get_or (row_of voted.answer.mask) r false ≡ true) ↔ ((r < k) × (output_of outputs len r ≡ take len voted.output))
  left_exactly served r =
      let winners : List Bool = having outputs k len (take len voted.output) in
      let mask : row_of voted.answer.mask ≡ winners =
      ap (λ (t : Tally). row_of t.mask) (left_shares served) ∙ row_mask winners (tabulate_length _ 0 most) in
      rw mask (elim course [
        | wrong e ↦ let n : ◌≡◌ {A = ℕ} 15 0 = rw e at served in absurd (omega arith)
        | right a e ↦ having_bit outputs k len a.few (take len voted.output) r
      ])

  -- Bytes past the outputs' length are kept, whatever it comes to; and by a refusal all from the block that it names on.
  pub rest_kept : drop len voted.output ≡ drop len out
  rest_kept = elim course [ wrong e ↦ rw e | right a e ↦ rw e (through_ended a).kept ]

  pub refused_keeps : (voted.answer.number ≡ 0 → ⊥)
      → drop (longest * voted.answer.value) voted.output ≡ drop (longest * voted.answer.value) out
  refused_keeps = elim course [ wrong e ↦ λ _. rw e | right a e ↦ rw e (λ refused. ((through_ended a).split refused).2) ]

  -- So one that names block 0, as each with 15 does, changes no byte.
  pub refused_at_once : (voted.answer.number ≡ 0 → ⊥) → voted.answer.value ≡ 0 → voted.output ≡ out
  refused_at_once refused First-Block = rw First-Block at (refused_keeps refused)

  -- Where more than half of the replicas have one output, the whole vote is served with it.
  pub majority_wins : invalid longest_output (length outputs) k len (length out) ≡ false → (i : ℕ) → i < k
      → k < 2 * votes (having outputs k len (output_of outputs len i))
      → voted ≡ record {
        answer = agreed_by (having outputs k len (output_of outputs len i));
        output = overwrite out 0 (output_of outputs len i);
      }
  unfolding whole
  majority_wins valid i here more =
      let a : Allowed longest_output (length outputs) k len (length out) = allowed valid in
      let e : voted ≡ through outputs k len (blocks len) 0 (first_of k) out = rw (valid, whole) in
      let (served, own) =
      wins outputs k len a.whole a.few a.several i here more (blocks len) 0 (first_of k) out (omega arith) (upto_none outputs k len out)
      a.fits (first_in k i a.few here) in
      let number : voted.answer.number ≡ 0 = rw e served in
      let same : output_of outputs len i ≡ take len voted.output = ((left_exactly number i).0 (rw e own)).1 in
      let size : length (output_of outputs len i) ≡ len = rw (length-take, length-drop) (omega (arith, a.whole, output_end len here)) in
      ap₂ (λ (t : Tally) (o : List ℕ). record { answer = t; output = o })
      (left_shares number ∙ ap (λ (o : List ℕ). agreed_by (having outputs k len o)) (sym same))
      (sym (take-append-drop len voted.output) ∙ rw (← same, rest_kept, size))

-- So of three replicas any two that share an output win.
pub two_of_three : (outputs : List ℕ) (len : ℕ) (out : List ℕ) → invalid longest_output (length outputs) 3 len (length out) ≡ false
    → (i j : ℕ) → i < 3 → j < 3 → (i ≡ j → ⊥) → output_of outputs len i ≡ output_of outputs len j
    → whole outputs 3 len out ≡ record {
      answer = agreed_by (having outputs 3 len (output_of outputs len i));
      output = overwrite out 0 (output_of outputs len i);
    }
two_of_three outputs len out valid i j l m apart same =
    let two : 2 ≤ votes (having outputs 3 len (output_of outputs len i)) =
    votes_two _ most i j (omega arith) (omega arith) apart
    (rw (first_in 3 i (omega arith) l) (alike_self (output_of outputs len i)))
    (rw (first_in 3 j (omega arith) m, ← same) (alike_self (output_of outputs len i))) in
    majority_wins outputs 3 len out valid i l (omega arith)

-- A whole vote on outputs of one block is the block vote.
pub one_block : (outputs : List ℕ) (k len : ℕ) (out : List ℕ) → invalid longest (length outputs) k len (length out) ≡ false
    → let d = decide outputs k len (length out) in
    whole outputs k len out ≡ record { answer = tally d; output = output_after d out }
unfolding decide through whole
one_block outputs k len out valid =
    let a : Allowed longest (length outputs) k len (length out) = allowed valid in
    let also : invalid longest_output (length outputs) k len (length out) ≡ false =
    not_invalid record {
      several = a.several;
      few = a.few;
      some = a.some;
      short = omega (arith, a.short);
      whole = a.whole;
      fits = a.fits;
    } in
    let one : blocks len ≡ 1 = omega (arith, a.some, a.short) in
    let all : block_at k len 0 ≡ side_by_side k len = let e : min longest (len - 0) ≡ len = omega (arith, a.short) in rw e in
    let through-one : whole outputs k len out ≡ through outputs k len 1 0 (first_of k) out = rw (also, whole, one) in
    let counted : decide outputs k len (length out) ≡ count (first_of k) (block_in outputs (block_at k len 0)) = rw (valid, decide, all) in
    through-one
    ∙ count_cases (first_of k) (block_in outputs (block_at k len 0))
    (λ none. rw (counted, none) (through_lost outputs k len 0 0 (first_of k) out none))
    (λ winners content some by. rw (counted, some) (through_won outputs k len 0 0 (first_of k) out some))
