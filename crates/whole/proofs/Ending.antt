-- How a whole vote ends, by induction over its blocks: who is left has what was written, and a majority is never out.
use Prim.Native.Nat.{ℕ, zero, suc, ◌+◌, ◌-◌, ◌*◌, ◌≤◌, ◌<◌, min}
use native.Mathlib.Nat.{mul-suc}
use native.Mathlib.Decide.{dec_lt}
use native.Mathlib.Omega.{arith}
use mathlib.Core.Path.{◌≡◌, refl, sym, ap, ◌∙◌}
use mathlib.Core.Bool.{Bool, true, false, ◌&&◌, true≢false, and-eq-true_iff}
use mathlib.Core.List.{List}
use lib.ListN.{length, get_or, take, drop, length-take, length-drop}
use lib.Dec.{ltb}
use borrow.Author.Tests.{lt-ltb}
use Rattle.search.specs.Tabulate.{tabulate}
use Rattle.search.proofs.Tabulate.{tabulate_at, tabulate_length}
use Rattle.alike.specs.Alike.{alike}
use Rattle.alike.proofs.Equal.{alike_self, alike_equal}
use Rattle.writing.specs.Overwrite.{overwrite}
use Rattle.writing.proofs.Parts.{part_after}
use Rattle.writing.proofs.Writing.{overwrite_length}
use Rattle.answer.specs.declared.Refusal.TheVariants.{NoAgreement}
use Rattle.elect.specs.Leader.{most, votes, row_of}
use Rattle.elect.proofs.Rows.{votes_le, row_mask}
use Rattle.vote.specs.Decide.{longest, first_of, block_in, sharing, agreed_by, refused_with}
use Rattle.vote.proofs.Comparing.{first_votes}
use Rattle.vote.proofs.Decision.{first_only, output_end}
use Rattle.vote.proofs.Winning.{WonBy, count_cases, sharing_votes, count_majority}
use Rattle.whole.specs.Whole.{blocks, block_at, Voted, through}
use Rattle.whole.specs.Outputs.{output_of, having}
use Rattle.whole.proofs.Blocks.{through_lost, through_won}
use Rattle.whole.proofs.Left.{up_to, upto_more, upto_all}

module _ (outputs : List ℕ) (k len : ℕ) (lent : length outputs ≡ k * len) where
  -- who is in is one of the k replicas
  in_lt : (at : ℕ) (out : List ℕ) (r : ℕ) → get_or (up_to outputs k len at out) r false ≡ true → r < k
  in_lt at out r e = elim (dec_lt r k) [
    | yes l ↦ l
    | no l ↦
        let out_of : get_or (up_to outputs k len at out) r false ≡ false =
        sharing_votes (first_of k) (λ r. take at (output_of outputs len r)) (take at (take len out)) r (first_only k r (omega arith)) in
        absurd (true≢false (sym e ∙ out_of))
  ]

  -- a winning block has the block's length
  block_size : (at : ℕ) (out : List ℕ) {winners : List Bool} {content : List ℕ} → at ≤ len
      → WonBy (up_to outputs k len at out) (block_in outputs (block_at k len at)) winners content
      → length content ≡ min longest (len - at)
  block_size at out h by =
      rw (by.what, length-take, length-drop)
      (omega (arith, output_end len (in_lt at out by.who by.votes_too)))

  -- ---- how it ends

  -- a vote that went on from block j with an output
  pub record Ended (j : ℕ) (out : List ℕ) (v : Voted) : Type 0 where
    pub kept : drop len v.output ≡ drop len out
    pub left : v.answer.number ≡ 0 → v.answer ≡ agreed_by (having outputs k len (take len v.output))
    pub split : (v.answer.number ≡ 0 → ⊥)
        → (v.answer ≡ refused_with NoAgreement v.answer.value)
        × (j ≤ v.answer.value)
        × (drop (longest * v.answer.value) v.output ≡ drop (longest * v.answer.value) out)

  pub ended : (n j : ℕ) (still : List Bool) (out : List ℕ) → j + n ≡ blocks len → still ≡ up_to outputs k len (longest * j) out
      → len ≤ length out → Ended j out (through outputs k len n j still out)
  unfolding through
  ended zero j still out e is room =
      record {
        kept = refl;
        left = λ _. ap agreed_by (is ∙ upto_all outputs k len (longest * j) out (omega arith));
        split = λ not-served. absurd (not-served refl);
      }
  ended (suc n) j still out e is room =
      let at : ℕ = longest * j in
      let within : at ≤ len = omega arith in
      count_cases still (block_in outputs (block_at k len at))
      (λ none.
      rw (through_lost outputs k len n j still out none)
      record { kept = refl; left = λ z. absurd (omega arith); split = λ _. (refl, omega arith, refl) })
      (λ winners content some by.
      let size : length content ≡ min longest (len - at) = block_size at out within (rw is at by) in
      let next : longest * suc j ≡ at + longest = mul-suc longest j in
      let in-next : winners ≡ up_to outputs k len (longest * suc j) (overwrite out at content) =
      by.all ∙ rw (is, next) (upto_more outputs k len at out content within room size) in
      let v : Voted = through outputs k len n (suc j) winners (overwrite out at content) in
      let rest : Ended (suc j) (overwrite out at content) v =
      ended n (suc j) winners (overwrite out at content) (omega arith) in-next (rw (overwrite_length out at content (omega arith)) room) in
      let after = part_after out at content (omega arith) in
      rw (through_won outputs k len n j still out some)
      record {
        kept = rest.kept ∙ after len (omega arith);
        left = rest.left;
        split = λ refused.
            let (answer, later, same) = rest.split refused in
            (answer, omega arith, same ∙ after (longest * v.answer.value) (omega arith));
      })

  -- ---- a majority

  module _ (few : k ≤ 16) (several : 3 ≤ k) (i : ℕ) (here : i < k)
      (more : k < 2 * votes (having outputs k len (output_of outputs len i))) where
    -- as long as the replica is in, so are all who have its output
    none_lost : (at : ℕ) (out : List ℕ) → get_or (up_to outputs k len at out) i false ≡ true
        → votes (having outputs k len (output_of outputs len i)) ≤ votes (up_to outputs k len at out)
    none_lost at out own = votes_le same 0 most
      where
        same : (r : ℕ) → get_or (first_of k) r false && alike (output_of outputs len i) (output_of outputs len r) ≡ true
            → get_or (first_of k) r false && alike (take at (take len out)) (take at (output_of outputs len r)) ≡ true
        same r h =
            let (votes_too, has) = (and-eq-true_iff (get_or (first_of k) r false) _).0 h in
            let begins = (and-eq-true_iff (get_or (first_of k) i false) _).0 (sym (tabulate_at _ false 16 i (omega arith)) ∙ own) in
            rw (votes_too, ← alike_equal (output_of outputs len i) (output_of outputs len r) has) begins.1

    -- no more are in than there are
    few_in : (at : ℕ) (out : List ℕ) → votes (tabulate (λ r. get_or (up_to outputs k len at out) r false) 0 most) ≤ k
    few_in at out =
        let all = votes_le {f = λ r. get_or (up_to outputs k len at out) r false} {h = λ r. ltb r k} (λ r h. lt-ltb r k (in_lt at out r h)) 0 most in
        omega (arith, first_votes k few)

    pub wins : (n j : ℕ) (still : List Bool) (out : List ℕ) → j + n ≡ blocks len → still ≡ up_to outputs k len (longest * j) out
        → len ≤ length out → get_or still i false ≡ true
        → let v = through outputs k len n j still out in
        (v.answer.number ≡ 0) × (get_or (row_of v.answer.mask) i false ≡ true)
    unfolding through
    wins zero j still out e is room own =
        let all : length still ≡ most = rw is (tabulate_length _ 0 most) in
        (refl, rw (row_mask still all) own)
    wins (suc n) j still out e is room own =
        let at : ℕ = longest * j in
        let block : ℕ → List ℕ = block_in outputs (block_at k len at) in
        let within : at ≤ len = omega arith in
        let size : length (block i) ≡ min longest (len - at) = rw (length-take, length-drop) (omega (arith, output_end len here)) in
        let next : longest * suc j ≡ at + longest = mul-suc longest j in
        let winners : List Bool = sharing still block (block i) in
        let after : List ℕ = overwrite out at (block i) in
        let in-next : winners ≡ up_to outputs k len (at + longest) after = rw is (upto_more outputs k len at out (block i) within room size) in
        let own-next : get_or winners i false ≡ true =
        tabulate_at (λ r. get_or still r false && alike (block i) (block r)) false 16 i (omega arith) ∙ rw (own, alike_self (block i)) in
        let enough : votes (having outputs k len (output_of outputs len i)) ≤ votes winners =
        rw in-next (none_lost (at + longest) after (rw in-next at own-next)) in
        let voters : votes (tabulate (λ r. get_or still r false) 0 most) ≤ k = rw is (few_in at out) in
        rw (through_won outputs k len n j still out (count_majority still block i (omega arith) own (omega arith) (omega arith)))
        (wins n (suc j) winners after (omega arith) (rw next in-next) (rw (overwrite_length out at (block i) (omega arith)) room) own-next)
