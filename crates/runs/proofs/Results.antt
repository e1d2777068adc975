-- What a request comes to, and what that does to the slots.
use Rattle.std.specs.Prelude.{Ok, Some, None}
use Prim.Native.Nat.{ℕ, ◌+◌, ◌<◌}
use mathlib.Core.Path.{◌≡◌, refl}
use mathlib.Core.List.{List}
use mathlib.Core.Logic.Dec
use native.Mathlib.Decide.{ℕ_discrete}
use native.Mathlib.Omega.{arith}
use lib.ListN.{length}
use Rattle.mwc.specs.declared.Generator.{Generator}
use Rattle.geometry.specs.declared.Layout.{Layout}
use Rattle.geometry.specs.Layout.{region_of, layout_of, class_of, slots, slot_start}
use Rattle.request.specs.declared.Request.{Request}
use Rattle.request.specs.declared.Request.TheVariants.{Allocate, Free, Remaining, Copy, Read}
use Rattle.request.specs.Parse.{Parsed}
use Rattle.answer.specs.declared.Refusal.{Refusal}
use Rattle.judge.specs.Judge.{admit}
use Rattle.rules.specs.Outcome.{Outcome, refused, allocated, freed, reply, metadata_after}
use Rattle.rules.specs.Allocate.{taken}
use Rattle.rules.specs.Serve.{Lent, act}
use Rattle.rules.specs.Call.{called_by, serving}
use Rattle.runs.specs.Run.{Step, Event}
use Rattle.runs.specs.Pair.{Measures}
use Rattle.rules.proofs.Outcomes.{Comes, refuses, serves, allocate_comes, free_comes, remaining_comes, copy_comes, read_comes}
use Rattle.judge.proofs.Judging.{right_lengths, none_over, admit_laid}
use Rattle.rules.proofs.Serving.{serving_acts}
use Rattle.rules.proofs.Effects.{live_bit, Valid, Takes, Ends, Changed, allocate_takes, allocate_changes, free_ends, free_changes, changed_valid}

-- ---- a request's outcome

-- what a request does to the slots: nothing, or slot i of class c turns to v
pub data Change : Type 0 where
  none : Change
  turn : (v c i : ℕ) → Change

-- a served outcome that leaves the metadata
pub record Tells (G : Layout) (m : List ℕ) (o : Outcome) : Type 0 where
  pub served : (reply G o).number ≡ 0
  pub kept : metadata_after G m o ≡ m

-- each request with its outcome and its change
pub data Result (G : Layout) (m : List ℕ) : Parsed → Outcome → Change → Type 0 where
  refusal : (p : Parsed) (r : Refusal) → Result G m p (refused r) none
  allocation : (size : ℕ) {c i : ℕ} {g : Generator} → c ≡ class_of G size → allocated c i g ≡ taken G m c → Takes G m c i
      → Result G m (Some (Allocate size)) (allocated c i g) (turn 1 c i)
  freeing : (offset : ℕ) {c i : ℕ} → offset ≡ slot_start G c i → Ends G m c i → Result G m (Some (Free offset)) (freed c i) (turn 0 c i)
  measuring : (q : Request) → Measures q → {o : Outcome} → Tells G m o → Result G m (Some q) o none

-- an outcome's step, and its event
abbrev pub step_by : Layout → List ℕ → Outcome → Step
step_by G m o = record { answer = reply G o; metadata = metadata_after G m o }

abbrev pub event_by : Layout → Parsed → Outcome → Event
event_by G p o = record { asked = p; answer = reply G o }

module _ (G : Layout) (m : List ℕ) where
  -- so a served outcome's result is enough
  served_or_refused : (p : Parsed) {o o' : Outcome} → Comes o o' → (o' ≡ o → (x : Change) × Result G m p o x) → (x : Change) × Result G m p o' x
  served_or_refused p (refuses r) f = (none, refusal p r)
  served_or_refused p serves f = f refl

  -- every request has a result
  pub result : Valid G m → (lent : Lent) (p : Parsed) → (x : Change) × Result G m p (act G m lent p) x
  result valid lent (Some (Allocate size)) =
      served_or_refused _ (allocate_comes G m size)
      (λ e. let (class, takes) = allocate_takes G m valid size e in (turn 1 _ _, allocation size class refl takes))
  result valid lent (Some (Free offset)) =
      served_or_refused _ (free_comes G m offset)
      (λ e. let (start, ends) = free_ends G m valid offset e in (turn 0 _ _, freeing offset start ends))
  result valid lent (Some (Remaining offset)) =
      served_or_refused _ (remaining_comes G m offset) (λ e. (none, measuring _ tt (record { served = refl; kept = refl })))
  result valid lent (Some (Copy offset kind)) =
      served_or_refused _ (copy_comes G m offset kind lent.source) (λ e. (none, measuring _ tt (record { served = refl; kept = refl })))
  result valid lent (Some (Read offset count)) =
      served_or_refused _ (read_comes G m offset count (length lent.page)) (λ e. (none, measuring _ tt (record { served = refl; kept = refl })))
  result valid lent None = (none, refusal None _)

-- ---- a change, in the metadata

-- what a change finds and leaves
abbrev pub Made : Layout → List ℕ → List ℕ → Change → Type 0
Made G m m' none = m' ≡ m
Made G m m' (turn v c i) = (i < slots G c) × (live_bit G m c i + v ≡ 1) × Changed G m m' c i v

-- each result makes its change
module _ (G : Layout) (m : List ℕ) (valid : Valid G m) where
  pub made : {p : Parsed} {o : Outcome} {x : Change} → Result G m p o x → Made G m (metadata_after G m o) x
  made (refusal p r) = refl
  made (allocation size {g} c found t) = (t.slot, omega arith, allocate_changes G m valid g t)
  made (freeing offset start t) = (t.slot, omega arith, free_changes G m valid t)
  made (measuring q h tells) = tells.kept

  -- and leaves valid metadata
  pub result_valid : {p : Parsed} {o : Outcome} {x : Change} → Result G m p o x → Valid G (metadata_after G m o)
  result_valid (refusal p r) = valid
  result_valid (allocation size {g} c found t) =
      let now = allocate_changes G m valid g t in
      changed_valid G m valid now (omega (arith, now.count, t.room, t.clear))
  result_valid (freeing offset start t) =
      let now = free_changes G m valid t in
      changed_valid G m valid now (omega (arith, now.count, valid.few _ t.class, t.set))
  result_valid (measuring q h tells) = rw tells.kept valid

module _ (G : Layout) (m m' : List ℕ) where
  -- a slot's bit does change
  moved : {v c i : ℕ} → Made G m m' (turn v c i) → live_bit G m' c i ≡ live_bit G m c i → ⊥
  moved h e = let here = h.2.here in omega arith

  -- the metadata before and after tell the change
  pub same_change : (x y : Change) → Made G m m' x → Made G m m' y → x ≡ y
  same_change none none h k = refl
  same_change none (turn v c i) h k = absurd (moved k (rw h))
  same_change (turn v c i) none h k = absurd (moved h (rw k))
  same_change (turn v c i) (turn w d j) h k = elim (Dec.and (ℕ_discrete c d) (ℕ_discrete i j)) [
    | yes e ↦ let v≡w : v ≡ w = cc in cc
    | no e ↦ absurd (moved h (k.2.elsewhere c i h.0 e))
  ]

-- ---- a request on valid metadata

module _ (n : ℕ) (region : region_of n ≡ 0 → ⊥) (m : List ℕ) (valid : Valid (layout_of n) m) where
  -- it is admitted, and so acted on
  pub valid_admits : admit n m ≡ Ok (layout_of n)
  valid_admits = admit_laid n m (right_lengths n (length m) region valid.fits) (none_over (layout_of n) m valid.few)

  pub valid_acts : (beside : Lent) (p : Parsed) → let G = layout_of n in serving n m beside p ≡ called_by G m (act G m beside p)
  valid_acts beside p = serving_acts n m beside p valid_admits
