-- What serving and opening come to, once lengths and counts are judged.
use Rattle.std.specs.Prelude.{Ok, Err}
use Prim.Native.Nat.{ℕ}
use mathlib.Core.Path.{◌≡◌, refl, ap}
use mathlib.Core.Bool.{Bool, true, false}
use mathlib.Core.List.{List}
use native.Mathlib.Decide.{ℕ_discrete}
use lib.ListN.{length}
use Rattle.geometry.specs.declared.Layout.{Layout}
use Rattle.geometry.specs.Layout.{region_of, layout_of, metadata_length}
use Rattle.request.specs.Parse.{Parsed}
use Rattle.answer.specs.declared.Refusal.{Refusal}
use Rattle.answer.specs.declared.Refusal.TheVariants.{UnusableSeed, HeapLength, MetadataLength}
use Rattle.answer.proofs.Numbers.{refusal_number}
use Rattle.mwc.specs.Draw.{is_unusable}
use Rattle.judge.specs.Judge.{lengths, admit}
use Rattle.judge.proofs.Judging.{no_heap, other_length, right_lengths}
use Rattle.rules.specs.Open.{Setup, fresh}
use Rattle.rules.specs.Serve.{Lent, act}
use Rattle.rules.specs.Call.{Call, called_by, unserved, serving, opened_by, opening}

-- what each way through serving comes to
module _ (n : ℕ) (m : List ℕ) (beside : Lent) (asked : Parsed) where
  -- a request that is admitted is acted on
  pub serving_acts : {G : Layout} → admit n m ≡ Ok G → serving n m beside asked ≡ called_by G m (act G m beside asked)
  unfolding serving
  serving_acts e = rw e

  -- and any other is refused
  pub serving_unfit : {r : Refusal} → admit n m ≡ Err r → serving n m beside asked ≡ unserved m r
  unfolding serving
  serving_unfit e = rw e

-- what each way through an opening comes to
module _ (n : ℕ) (m : List ℕ) (s : Setup) where
  -- a length is not allowed
  pub opening_unfit : {r : Refusal} → lengths n (length m) ≡ Err r → opening n m s ≡ unserved m r
  unfolding opening
  opening_unfit e = rw e

  module _ {G : Layout} (laid : lengths n (length m) ≡ Ok G) where
    -- the seeds are not
    pub opening_unusable : is_unusable s.seeds ≡ true → opening n m s ≡ unserved m UnusableSeed
    unfolding opening
    opening_unusable e = rw (laid, e)

    -- all is in order
    pub opening_served : is_unusable s.seeds ≡ false → opening n m s ≡ opened_by G s
    unfolding opening
    opening_served e = rw (laid, e)

  -- a served opening found a layout
  module _ (e : (opening n m s).answer.number ≡ 0) where
    pub has_layout : region_of n ≡ 0 → ⊥
    has_layout z = refusal_number HeapLength (rw (opening_unfit (no_heap n (length m) z)) at e)

    -- and opened the heap by it, and so left fresh metadata
    pub opened_by_lem : opening n m s ≡ opened_by (layout_of n) s
    opened_by_lem = elim (ℕ_discrete (length m) (metadata_length (layout_of n))) [
      | yes p ↦ seeded (is_unusable s.seeds) refl (right_lengths n (length m) has_layout p)
      | no p ↦ absurd (refusal_number MetadataLength (rw (opening_unfit (other_length n (length m) has_layout p)) at e))
    ]
      where
        seeded : (t : Bool) → is_unusable s.seeds ≡ t → lengths n (length m) ≡ Ok (layout_of n) → opening n m s ≡ opened_by (layout_of n) s
        seeded true q laid = absurd (refusal_number UnusableSeed (rw (opening_unusable laid q) at e))
        seeded false q laid = opening_served laid q

    pub opened_fresh : (opening n m s).metadata ≡ fresh (layout_of n) s
    opened_fresh = ap (λ (c : Call). c.metadata) opened_by_lem
