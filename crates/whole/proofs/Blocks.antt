-- The loop over blocks: what is left of the vote is the vote from the next block on.
use Prim.Native.Nat.{ℕ, suc, ◌+◌, ◌-◌, ◌*◌, ◌^◌, ◌≤◌, ◌<◌, min}
use native.Mathlib.Nat.{sub-zero}
use native.Mathlib.Numerals.{add-one}
use native.Mathlib.Omega.{arith}
use mathlib.Core.Path.{◌≡◌, refl, ap, ◌∙◌}
use mathlib.Core.Bool.{Bool}
use mathlib.Core.List.{List, ◌++◌}
use lib.ListN.{length, take, drop, length-take, length-drop, take-append-drop}
use Rattle.search.proofs.Tabulate.{tabulate_length}
use Rattle.writing.specs.Overwrite.{overwrite}
use Rattle.writing.proofs.Writing.{Wrote, wrote_from, wrote_length}
use Rattle.answer.specs.declared.Refusal.{Refusal}
use Rattle.answer.specs.declared.Refusal.TheVariants.{NoAgreement}
use Rattle.answer.specs.Reply.{number_of}
use Rattle.answer.proofs.Numbers.{refusal_number}
use Rattle.elect.specs.Leader.{most, mask_of, row_of}
use Rattle.elect.proofs.Rows.{row_mask, mask_lt}
use Rattle.vote.specs.declared.Places.{Places}
use Rattle.vote.specs.declared.Tally.{Tally}
use Rattle.std.specs.Prelude.{Result, Ok, Err}
use Rattle.elect.specs.declared.Elected.{Elected}
use Rattle.vote.specs.Decide.{Decision, longest, first_of, block_in, count, won, lost, step, agreed_by, refused_with, tally, tally_of, output_after}
use Rattle.vote.proofs.Comparing.{first_row}
use Rattle.vote.proofs.Decision.{Allowed, Fitting, first_only, step_counts, voters_only}
use Rattle.vote.proofs.Winning.{WonBy, count_cases, sharing_votes}
use Rattle.whole.specs.Whole.{longest_output, blocks, block_at, Voted, through}

-- ---- the definition, a block at a time

module _ (outputs : List ℕ) (k len n j : ℕ) (still : List Bool) (out : List ℕ) where
  abbrev block_of : ℕ → List ℕ
  block_of = block_in outputs (block_at k len (longest * j))

  -- a block in which no two agree ends the vote
  pub through_lost : {r : Refusal} → count still block_of ≡ lost r
      → through outputs k len (suc n) j still out ≡ record { answer = refused_with r j; output = out }
  unfolding through
  through_lost e = rw (e, through)

  -- winners go on
  pub through_won : {winners : List Bool} {content : List ℕ} → count still block_of ≡ won winners content
      → through outputs k len (suc n) j still out ≡ through outputs k len n (suc j) winners (overwrite out (longest * j) content)
  unfolding through
  through_won e = rw (e, through)

-- ---- the loop

-- the blocks before this one are voted on
pub record Reached (outputs : List ℕ) (k len : ℕ) (start out : List ℕ) (still block at : ℕ) : Type 0 where
  pub allowed : Allowed longest_output (length outputs) k len (length start)
  pub place : at ≡ longest * block
  pub left : at < len
  pub voters : still < 2 ^ k
  pub room : length out ≡ length start
  pub rest : through outputs k len (blocks len) 0 (first_of k) start
      ≡ through outputs k len (blocks len - block) block (row_of still) out

-- none yet
pub reached_none : (outputs : List ℕ) {k len : ℕ} (start : List ℕ) {still : ℕ}
    → Allowed longest_output (length outputs) k len (length start) → still ≡ mask_of (first_of k)
    → Reached outputs k len start start still 0 0
reached_none outputs {k} start a e =
    record {
      allowed = a;
      place = refl;
      left = a.some;
      voters = rw e (mask_lt (first_of k) k (first_only k));
      room = refl;
      rest = rw (e, first_row k, sub-zero);
    }

module _ {outputs : List ℕ} {k len : ℕ} {start out : List ℕ} {still block at : ℕ} (r : Reached outputs k len start out still block at) where
  abbrev Rest : Voted
  Rest = through outputs k len (blocks len) 0 (first_of k) start

  abbrev p : Places
  p = block_at k len at

  abbrev part : List ℕ
  part = take (length out - at) (drop at out)

  part_length : length part ≡ length out - at
  part_length = simp (length-take, length-drop) (omega arith)

  fits : Fitting (length outputs) still p (length part)
  fits =
      let a = r.allowed in
      record {
        some = omega (arith, a.several);
        few = a.few;
        voters = r.voters;
        part = omega (arith, r.left);
        whole = omega (arith, a.whole);
        fits = omega (arith, part_length, a.fits, r.room, r.left);
      }

  -- at least this block is left
  fuel : blocks len - block ≡ suc (blocks len - suc block)
  fuel = omega (arith, r.place, r.left)

  -- the step is the count of this block
  abbrev counting : Decision
  counting = count (row_of still) (block_in outputs (block_at k len (longest * block)))

  stepped : step outputs still p (length part) ≡ counting
  stepped = step_counts outputs fits ∙ ap (λ (x : ℕ). count (row_of still) (block_in outputs (block_at k len x))) r.place

  -- what the step lent back, with the bytes around it
  abbrev put : List ℕ → List ℕ
  put w = take at out ++ (w ++ drop (length out - at) (drop at out))

  -- the winners of this block, and what they wrote
  record Passed (t : Tally) (w : List ℕ) : Type 0 where
    winners : List Bool
    content : List ℕ
    wins : counting ≡ won winners content
    by : WonBy (row_of still) (block_in outputs (block_at k len (longest * block))) winners content
    tallied : t ≡ agreed_by winners
    written : Wrote out (put w) at content

  -- what is left of the vote then
  next : {t : Tally} {w : List ℕ} (n : Passed t w)
      → Rest ≡ through outputs k len (blocks len - suc block) (suc block) n.winners (put w)
  next n =
      rw (
        r.rest,
        fuel,
        through_won outputs k len (blocks len - suc block) block (row_of still) out n.wins,
        ← r.place,
        ← n.written.bytes,
      )

  -- a step's verdict, and what it lent back
  abbrev pub Stepped : Result Elected Refusal → List ℕ → Type 0
  Stepped v w = let d = step outputs still p (length part) in (tally_of v ≡ tally d) × (w ≡ output_after d part)

  module _ {v : Result Elected Refusal} {w : List ℕ} (s : Stepped v w) where
    -- no two agree
    pub reached_lost : {q : Refusal} → v ≡ Err q
        → (refused_with NoAgreement block ≡ Rest.answer) × (put w ≡ Rest.output)
    reached_lost {q} e =
        count_cases (row_of still) (block_in outputs (block_at k len (longest * block)))
        (λ none.
        let same = rw (stepped, none) at s.1 in
        let back : put w ≡ out = rw (same, take-append-drop (length out - at) (drop at out)) (take-append-drop at out) in
        rw (r.rest, fuel, through_lost outputs k len (blocks len - suc block) block (row_of still) out none) (refl, back))
        (λ winners content some by.
        let number : number_of q ≡ 0 = ap (λ (t : Tally). t.number) (rw (e, stepped, some) at s.0) in
        absurd (refusal_number q number))

    passed : {left : Elected} → v ≡ Ok left → Passed (tally_of (Ok left)) w
    passed {left} e =
        count_cases (row_of still) (block_in outputs (block_at k len (longest * block)))
        (λ none.
        let number : ◌≡◌ {A = ℕ} 0 12 = ap (λ (t : Tally). t.number) (rw (e, stepped, none) at s.0) in
        absurd (omega arith))
        (λ winners content some by.
        let short : length content ≤ len - longest * block = rw (by.what, length-take) (omega arith) in
        record {
          winners = winners;
          content = content;
          wins = some;
          by = by;
          tallied = rw (e, stepped, some) at s.0;
          written = wrote_from out content at (rw (stepped, some) at s.1) (omega (arith, r.place, r.left, r.room, r.allowed.fits));
        })

    -- this was the last block
    pub reached_all : {left : Elected} {n : ℕ} → v ≡ Ok left → n ≡ min longest (len - at) → at + n ≡ len
        → (tally_of (Ok left) ≡ Rest.answer) × (put w ≡ Rest.output)
    unfolding through
    reached_all e size last =
        let n = passed e in
        let none : blocks len - suc block ≡ 0 = omega (arith, r.place, r.left) in
        let end : Rest ≡ record { answer = agreed_by n.winners; output = put w } = next n ∙ rw (none, through) in
        rw end (n.tallied, refl)

    -- another follows
    pub reached_more : {left : Elected} {n : ℕ} → v ≡ Ok left → n ≡ min longest (len - at) → (at + n ≡ len → ⊥)
        → Reached outputs k len start (put w) left.mask (block + 1) (at + n)
    reached_more {left} e size more =
        let n = passed e in
        let voting = row_of still in
        let Block-of = block_in outputs (block_at k len (longest * block)) in
        let mask : left.mask ≡ mask_of n.winners = ap (λ (t : Tally). t.mask) n.tallied in
        let all : length n.winners ≡ most = rw n.by.all (tabulate_length _ 0 most) in
        let same : row_of left.mask ≡ n.winners = ap row_of mask ∙ row_mask n.winners all in
        record {
          allowed = r.allowed;
          place = omega (arith, r.place, r.left);
          left = omega (arith, r.left);
          voters = rw mask (mask_lt n.winners k (λ j h. rw n.by.all (sharing_votes voting Block-of n.content j (voters_only r.voters j h))));
          room = wrote_length n.written ∙ r.room;
          rest = next n ∙ rw (add-one, same);
        }
