-- One request of each of two runs from the same metadata: the steps are equal exactly when the requests pair.
use Rattle.std.specs.Prelude.{Some}
use Prim.Native.Nat.{ℕ}
use mathlib.Core.Path.{◌≡◌, refl, sym, ap, subst, ◌∙◌}
use mathlib.Core.List.{List}
use Rattle.geometry.specs.declared.Layout.{Layout}
use Rattle.geometry.specs.Layout.{class_of}
use Rattle.request.specs.declared.Request.{Request}
use Rattle.request.specs.declared.Request.TheVariants.{Allocate}
use Rattle.request.specs.Parse.{Parsed}
use Rattle.rules.specs.Outcome.{Outcome, reply, metadata_after}
use Rattle.rules.specs.Allocate.{taken}
use Rattle.rules.specs.Serve.{Lent, act}
use Rattle.runs.specs.Pair.{Measures, Pair, allocations, frees, measurings, refusals}
use Rattle.answer.proofs.Numbers.{refusal_number}
use Rattle.rules.proofs.Refusing.{outcome_refused}
use Rattle.rules.proofs.Effects.{Valid}
use Rattle.runs.proofs.Results.{Change, Result, refusal, allocation, freeing, measuring, result, made, same_change, step_by, event_by}

module _ (G : Layout) (m : List ℕ) where
  -- a served allocation goes by the class alone, and a measuring changes nothing
  allocation_class : {o : Outcome} {x : Change} (size : ℕ) → Result G m (Some (Allocate size)) o x → (reply G o).number ≡ 0
      → o ≡ taken G m (class_of G size)
  allocation_class size (refusal _ r) e = absurd (refusal_number r e)
  allocation_class size (allocation _ c found t) e = cc
  allocation_class size (measuring _ h tells) e = absurd h

  measuring_keeps : {o : Outcome} {x : Change} (q : Request) → Result G m (Some q) o x → Measures q → metadata_after G m o ≡ m
  measuring_keeps q (refusal _ r) h = refl
  measuring_keeps q (allocation size c found t) h = absurd h
  measuring_keeps q (freeing offset start t) h = absurd h
  measuring_keeps q (measuring _ _ tells) h = tells.kept

  -- results with one change and one reply pair
  result_pair : {p q : Parsed} {o o' : Outcome} {x : Change} → Result G m p o x → Result G m q o' x
      → (reply G o).number ≡ (reply G o').number → (reply G o).value ≡ (reply G o').value → Pair G (event_by G p o) (event_by G q o')
  result_pair (refusal p r) (refusal q r') e v = refusals (refusal_number r) (cc)
  result_pair (refusal p r) (measuring b k tells) e v = absurd (refusal_number r (e ∙ tells.served))
  result_pair (measuring a h tells) (refusal q r) e v = absurd (refusal_number r (sym e ∙ tells.served))
  result_pair (measuring a h tells) (measuring b k tells') e v = measurings a b refl refl h k tells.served tells'.served v
  result_pair (allocation s c found takes) (allocation t d found' takes') e v = allocations s t refl refl (cc) refl refl
  result_pair (freeing offset start ends) (freeing offset' start' ends') e v = frees offset refl (cc) refl refl

  module _ (valid : Valid G m) (lent lent' : Lent) (p q : Parsed) where
    -- pairs have equal steps
    pub pair_steps : Pair G (event_by G p (act G m lent p)) (event_by G q (act G m lent' q))
        → step_by G m (act G m lent p) ≡ step_by G m (act G m lent' q)
    pair_steps (allocations s t e e' c h k) =
        let left = allocation_class s (result G m valid lent (Some (Allocate s))).1 (rw e at h) in
        let right = allocation_class t (result G m valid lent' (Some (Allocate t))).1 (rw e' at k) in
        rw (e, e', left, right, c)
    pair_steps (frees offset e e' h k) = rw (e, e')
    pair_steps (measurings a b e e' h k s s' v) =
        let left : metadata_after G m (act G m lent p) ≡ m = rw e (measuring_keeps a (result G m valid lent (Some a)).1 h) in
        let right : metadata_after G m (act G m lent' q) ≡ m = rw e' (measuring_keeps b (result G m valid lent' (Some b)).1 k) in
        λ i. record { answer = record { number = (s ∙ sym s') i; value = v i }; metadata = (left ∙ sym right) i }
    pair_steps (refusals h e) =
        let left = outcome_refused G m (act G m lent p) h in
        let right = outcome_refused G m (act G m lent' q) (λ z. h (e ∙ z)) in
        λ i. record {
          answer = record { number = e i; value = (left.value ∙ sym right.value) i };
          metadata = (left.metadata ∙ sym right.metadata) i;
        }

    -- and only pairs
    pub steps_pair : step_by G m (act G m lent p) ≡ step_by G m (act G m lent' q)
        → Pair G (event_by G p (act G m lent p)) (event_by G q (act G m lent' q))
    steps_pair e =
        let (x, left) = result G m valid lent p in
        let (y, right) = result G m valid lent' q in
        let same : y ≡ x = same_change G m _ y x (rw (ap (λ s. s.metadata) e) (made G m valid right)) (made G m valid left) in
        result_pair left (subst (Result G m q (act G m lent' q)) same right)
        (ap (λ s. s.answer.number) e) (ap (λ s. s.answer.value) e)
