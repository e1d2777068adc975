-- Two events are a pair exactly when they have one trait, and runs pair off exactly when their traits are equal.
use Rattle.std.specs.Prelude.{Ok, Err, Some, None}
use Prim.Native.Nat.{ℕ, zero, suc}
use mathlib.Core.Path.{◌≡◌, refl, sym, ap, ◌∙◌}
use mathlib.Core.Bool.{Bool, true, false, cond}
use mathlib.Core.List.{List, [], ◌∷◌, map, cons-eq-cons}
use mathlib.Core.Logic.{◌↔◌}
use native.Mathlib.Omega.{arith}
use lib.Dec.{eqb}
use lib.ListN.{length}
use borrow.Author.Tests.{eqb-true, eqb-false, ne_eqb}
use Rattle.request.specs.declared.Request.{Request}
use Rattle.request.specs.declared.Request.TheVariants.{Allocate, Free, Remaining, Copy, Read}
use Rattle.geometry.specs.declared.Layout.{Layout}
use Rattle.geometry.specs.Layout.{class_of}
use Rattle.answer.specs.declared.Refusal.TheVariants.{MalformedRequest}
use Rattle.answer.proofs.Numbers.{refusal_number}
use Rattle.request.specs.Parse.{parse, Parsed}
use Rattle.judge.specs.Judge.{admit, Judged}
use Rattle.rules.specs.Serve.{Lent}
use Rattle.rules.specs.Call.{serve}
use Rattle.runs.specs.Run.{Entry, Event, history, step_of}
use Rattle.runs.specs.Pair.{Served, Measures, Pair, allocations, frees, measurings, refusals, PairOff}
use Rattle.runs.specs.Wordings.{At}
use Rattle.runs.specs.Wordings.{Trait, allocates_in, frees_at, measures, refused_with, served_trait, trait, Refuses}
use Rattle.rules.proofs.Serving.{serving_unfit, serving_acts}
use Rattle.runs.proofs.Places.{at_nowhere, at_first}

-- what a trait says of an event
abbrev HasTrait : Layout → Event → Trait → Type 0
HasTrait G a (allocates_in c) = (s : ℕ) × (a.asked ≡ Some (Allocate s)) × (class_of G s ≡ c) × Served a
HasTrait G a (frees_at x) = (a.asked ≡ Some (Free x)) × Served a
HasTrait G a (measures v) = (q : Request) × (a.asked ≡ Some q) × Measures q × Served a × (a.answer.value ≡ v)
HasTrait G a (refused_with n) = (Served a → ⊥) × (a.answer.number ≡ n)

module _ (G : Layout) where
  has_trait : (a : Event) → Refuses a → HasTrait G a (trait G a)
  unfolding trait
  has_trait a refuses = go (eqb a.answer.number 0) a.asked refl refl
    where
      go : (t : Bool) (p : Parsed) → eqb a.answer.number 0 ≡ t → a.asked ≡ p
          → HasTrait G a (cond t (served_trait G p a.answer.value) (refused_with a.answer.number))
      go true (Some (Allocate size)) e f = (size, f, refl, eqb-true a.answer.number 0 e)
      go true (Some (Free offset)) e f = (f, eqb-true a.answer.number 0 e)
      go true (Some (Remaining offset)) e f = (Remaining offset, f, tt, eqb-true a.answer.number 0 e, refl)
      go true (Some (Copy offset kind)) e f = (Copy offset kind, f, tt, eqb-true a.answer.number 0 e, refl)
      go true (Some (Read offset count)) e f = (Read offset count, f, tt, eqb-true a.answer.number 0 e, refl)
      go true None e f = absurd (refuses f (eqb-true a.answer.number 0 e))
      go false p e f = (eqb-false a.answer.number 0 e, refl)

  -- two events with one trait are a pair
  one_trait : (a b : Event) (t : Trait) → HasTrait G a t → HasTrait G b t → Pair G a b
  one_trait a b (allocates_in c) (s, e, class, h) (t, f, class', k) = allocations s t e f (class ∙ sym class') h k
  one_trait a b (frees_at x) (e, h) (f, k) = frees x e f h k
  one_trait a b (measures v) (q, e, o, h, value) (r, f, p, k, value') = measurings q r e f o p h k (value ∙ sym value')
  one_trait a b (refused_with n) (h, number) (k, number') = refusals h (number ∙ sym number')

  measuring_trait : (q : Request) (value : ℕ) → Measures q → served_trait G (Some q) value ≡ measures value
  measuring_trait (Allocate size) value h = absurd h
  measuring_trait (Free offset) value h = absurd h
  measuring_trait (Remaining offset) value h = refl
  measuring_trait (Copy offset kind) value h = refl
  measuring_trait (Read offset count) value h = refl

  -- a pair has one trait
  pub pair_trait : {a b : Event} → Pair G a b → trait G a ≡ trait G b
  unfolding trait
  pair_trait {a} {b} (allocations s t e f c h k) = rw (h, k, e, f) (ap allocates_in c)
  pair_trait {a} {b} (frees offset e f h k) = rw (h, k, e, f)
  pair_trait {a} {b} (measurings q r e f p o h k v) = rw (h, k, e, f, measuring_trait q _ p, measuring_trait r _ o, v)
  pair_trait {a} {b} (refusals h e) =
      let k : b.answer.number ≡ 0 → ⊥ = λ z. h (e ∙ z) in
      rw (ne_eqb a.answer.number 0 h, ne_eqb b.answer.number 0 k, e)

  pub pair_traits : (a b : Event) → Refuses a → Refuses b → Pair G a b ↔ (trait G a ≡ trait G b)
  pair_traits a b h k = (pair_trait, λ e. one_trait a b (trait G a) (has_trait a h) (rw e (has_trait b k)))

  -- so runs pair off where their traits are equal
  pub pair_off_traits : (past other : List Event) → ((i : ℕ) (a : Event) → At past i a → Refuses a) → ((i : ℕ) (b : Event) → At other i b → Refuses b)
      → PairOff G past other ↔ (map (trait G) past ≡ map (trait G) other)
  pair_off_traits [] [] h k = (λ p. refl, λ e. tt)
  pair_off_traits [] (b ∷ other) h k = (λ p. absurd p, λ e. let z : ◌≡◌ {A = ℕ} 0 1 = cc in omega arith)
  pair_off_traits (a ∷ past) [] h k = (λ p. absurd p, λ e. let z : ◌≡◌ {A = ℕ} 0 1 = cc in omega arith)
  pair_off_traits (a ∷ past) (b ∷ other) h k =
      let (to, from) = pair_traits a b (h 0 a refl) (k 0 b refl) in
      let (there, back) = pair_off_traits past other (λ i. h (suc i)) (λ i. k (suc i)) in
      (λ (p, ps). cons-eq-cons.1 (to p, there ps), λ e. let (p, ps) = cons-eq-cons.0 e in (from p, back ps))

-- no run serves a malformed request
serve_refuses : (n : ℕ) (m request : List ℕ) (beside : Lent) → parse request ≡ None → (serve n m request beside).answer.number ≡ 0 → ⊥
serve_refuses n m request beside malformed = go (admit n m) refl
  where
    go : (j : Judged) → admit n m ≡ j → (serve n m request beside).answer.number ≡ 0 → ⊥
    go (Err r) e = rw (serving_unfit n m beside (parse request) e) (refusal_number r)
    go (Ok G) e = rw (serving_acts n m beside (parse request) e, malformed) (refusal_number MalformedRequest)

pub history_refuses : (m : List ℕ) (es : List Entry) (i : ℕ) (a : Event) → At (history m es) i a → Refuses a
unfolding history
history_refuses m [] i a at = absurd (at_nowhere at)
history_refuses m (e ∷ es) zero a at = rw (← at_first at) (serve_refuses (length e.heap) m e.request e.lent)
history_refuses m (e ∷ es) (suc i) a at = history_refuses (step_of m e).metadata es i a at
