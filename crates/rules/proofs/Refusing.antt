-- A refused call has value 0, changes no byte of metadata and heap, and shows nothing.
use Rattle.std.specs.Prelude.{Ok, Err}
use Prim.Native.Nat.{ℕ}
use mathlib.Core.Path.{◌≡◌, refl}
use mathlib.Core.Bool.{Bool, true, false}
use mathlib.Core.List.{List}
use lib.ListN.{length}
use Rattle.mwc.specs.Draw.{is_unusable}
use Rattle.geometry.specs.declared.Layout.{Layout}
use Rattle.answer.specs.declared.Refusal.{Refusal}
use Rattle.answer.specs.declared.Refusal.TheVariants.{UnusableSeed}
use Rattle.request.specs.Parse.{parse}
use Rattle.judge.specs.Judge.{lengths, admit, Judged}
use Rattle.rules.specs.Open.{Setup}
use Rattle.rules.specs.Outcome.{Outcome, refused, allocated, freed, told, shown}
use Rattle.rules.specs.Serve.{Lent, act}
use Rattle.rules.specs.Call.{called_by, unserved, serve, opening}
use Rattle.rules.specs.Changing.{Idle, Changeless}
use Rattle.rules.proofs.Serving.{serving_unfit, serving_acts, opening_unfit, opening_unusable, opening_served}

unserved_idle : (m : List ℕ) (r : Refusal) → Idle m (unserved m r)
unserved_idle m r = record { value = refl; metadata = refl; heap = λ h. refl; view = refl }

pub refused_idle : (G : Layout) (m : List ℕ) (r : Refusal) → Idle m (called_by G m (refused r))
refused_idle G m r = unserved_idle m r

pub outcome_refused : (G : Layout) (m : List ℕ) (o : Outcome) → Changeless m (called_by G m o)
outcome_refused G m (refused r) h = refused_idle G m r
outcome_refused G m (allocated c i g) h = absurd (h refl)
outcome_refused G m (freed c i) h = absurd (h refl)
outcome_refused G m (told value offset bytes) h = absurd (h refl)
outcome_refused G m (shown v) h = absurd (h refl)

-- a request of any bytes, on metadata of any bytes and length
pub serve_refused : (n : ℕ) (m request : List ℕ) (beside : Lent) → Changeless m (serve n m request beside)
serve_refused n m request beside = go (admit n m) refl
  where
    go : (j : Judged) → admit n m ≡ j → Changeless m (serve n m request beside)
    go (Err r) e = rw (serving_unfit n m beside (parse request) e) (λ h. unserved_idle m r)
    go (Ok G) e = rw (serving_acts n m beside (parse request) e) (outcome_refused G m (act G m beside (parse request)))

-- an opening
pub opening_refused : (n : ℕ) (m : List ℕ) (s : Setup) → Changeless m (opening n m s)
opening_refused n m s = go (lengths n (length m)) (is_unusable s.seeds) refl refl
  where
    go : (j : Judged) (t : Bool) → lengths n (length m) ≡ j → is_unusable s.seeds ≡ t → Changeless m (opening n m s)
    go (Err r) t e f = rw (opening_unfit n m s e) (λ h. unserved_idle m r)
    go (Ok G) true e f = rw (opening_unusable n m s e f) (λ h. unserved_idle m UnusableSeed)
    go (Ok G) false e f = rw (opening_served n m s e f) (λ h. absurd (h refl))
