-- The theorem over two runs of requests, and that over the counts of one.
use Prim.Native.Nat.{ℕ, zero, suc}
use mathlib.Core.Path.{◌≡◌, refl, sym, ap}
use mathlib.Core.List.{List, [], ◌∷◌, cons-eq-cons}
use mathlib.Core.Logic.{◌↔◌}
use native.Mathlib.Omega.{arith}
use lib.ListN.{length, take}
use Rattle.geometry.specs.Layout.{region_of, layout_of}
use Rattle.geometry.proofs.Geometry.{laid}
use Rattle.answer.specs.declared.Refusal.TheVariants.{CorruptMetadata}
use Rattle.answer.specs.Reply.{number_of}
use Rattle.request.specs.Parse.{parse}
use Rattle.rules.specs.Open.{Setup, fresh}
use Rattle.rules.specs.Serve.{act}
use Rattle.rules.specs.Call.{called_by, serve, opening}
use Rattle.runs.specs.Run.{Entry, HeapsOfLength, Event, step_of, trace, left, history}
use Rattle.runs.specs.Pair.{Pair, PairOff}
use Rattle.runs.specs.Live.{Object, objects_after, live, Sound, Counted, Never}
use Rattle.rules.proofs.Effects.{Valid, fresh_valid}
use Rattle.rules.proofs.Serving.{has_layout, opened_fresh}
use Rattle.runs.proofs.Results.{result, made, result_valid, valid_acts}
use Rattle.runs.proofs.Pairing.{pair_steps, steps_pair}
use Rattle.runs.proofs.Tracking.{Tracks, tracks_sound, tracks_counted, fresh_tracks, result_tracks}
use Rattle.runs.proofs.Sane.{act_sane}

-- a request's event
abbrev event_of : List ℕ → Entry → Event
event_of m e = record { asked = parse e.request; answer = (step_of m e).answer }

module _ (n : ℕ) (region : region_of n ≡ 0 → ⊥) where
  -- ---- one request

  module _ (m : List ℕ) (valid : Valid (layout_of n) m) where
    pub acts : (e : Entry) → let G = layout_of n in
        serve n m e.request e.lent ≡ called_by G m (act G m e.lent (parse e.request))
    acts e = valid_acts n region m valid e.lent (parse e.request)

    pub step_valid : (e : Entry) → length e.heap ≡ n → Valid (layout_of n) (step_of m e).metadata
    step_valid e h =
        let (x, r) = result (layout_of n) m valid e.lent (parse e.request) in
        rw (h, acts e) (result_valid (layout_of n) m valid r)

    step_pairs : (e f : Entry) → length e.heap ≡ n → length f.heap ≡ n
        → (step_of m e ≡ step_of m f) ↔ Pair (layout_of n) (event_of m e) (event_of m f)
    step_pairs e f h k =
        rw (h, k, acts e, acts f)
        (steps_pair (layout_of n) m valid _ _ _ _, pair_steps (layout_of n) m valid _ _ _ _)

    module _ (e : Entry) (h : length e.heap ≡ n) (os : List Object) (t : Tracks (layout_of n) m os) where
      step_tracks : Tracks (layout_of n) (step_of m e).metadata (objects_after (layout_of n) os (event_of m e))
      step_tracks =
          let (x, r) = result (layout_of n) m valid e.lent (parse e.request) in
          rw (h, acts e)
          (result_tracks (layout_of n) m _ os t r (made (layout_of n) m valid r))

      step_sane : (step_of m e).answer.number ≡ number_of CorruptMetadata → ⊥
      step_sane = rw (h, acts e) (act_sane (layout_of n) m (tracks_counted (layout_of n) m os t).set e.lent (parse e.request)).other

  -- ---- runs

  -- traces from one metadata are equal exactly when the histories pair off
  traces_pair : (es fs : List Entry) → length es ≡ length fs → HeapsOfLength n es → HeapsOfLength n fs
      → (m m' : List ℕ) → Valid (layout_of n) m → m' ≡ m
      → (trace m es ≡ trace m' fs) ↔ PairOff (layout_of n) (history m es) (history m' fs)
  unfolding trace history
  traces_pair [] [] l h k m m' valid e = (λ q. tt, λ q. refl)
  traces_pair [] (f ∷ fs) l h k m m' valid e = absurd (omega arith)
  traces_pair (a ∷ es) [] l h k m m' valid e = absurd (omega arith)
  traces_pair (a ∷ es) (b ∷ fs) l (h, hs) (k, ks) m m' valid e =
      let (to, from) = step_pairs m valid a b h k in
      let rest : (s : step_of m a ≡ step_of m b)
      → (trace (step_of m a).metadata es ≡ trace (step_of m b).metadata fs)
      ↔ PairOff (layout_of n) (history (step_of m a).metadata es) (history (step_of m b).metadata fs) =
      λ s. traces_pair es fs (omega arith) hs ks _ _ (step_valid m valid a h) (ap (λ t. t.metadata) (sym s)) in
      rw e (λ q. let (s, r) = cons-eq-cons.0 q in (to s, (rest s).0 r), λ (p, ps). cons-eq-cons.1 (from p, (rest (from p)).1 ps))

  -- the live objects are tracked, from any that the metadata tracks
  runs_track : (k : ℕ) (es : List Entry) → HeapsOfLength n es → (m : List ℕ) → Valid (layout_of n) m
      → (os : List Object) → Tracks (layout_of n) m os
      → Tracks (layout_of n) (left m (take k es)) (live (layout_of n) os (history m (take k es)))
  unfolding left history live
  runs_track zero es h m valid os t = t
  runs_track (suc k) [] h m valid os t = t
  runs_track (suc k) (e ∷ es) (h, hs) m valid os t = runs_track k es hs _ (step_valid m valid e h) _ (step_tracks m valid e h os t)

  -- and so no request finds the metadata corrupt
  runs_sane : (es : List Entry) → HeapsOfLength n es → (m : List ℕ) → Valid (layout_of n) m
      → (os : List Object) → Tracks (layout_of n) m os → Never CorruptMetadata (history m es)
  unfolding history
  runs_sane [] h m valid os t = tt
  runs_sane (e ∷ es) (h, hs) m valid os t =
      (step_sane m valid e h os t, runs_sane es hs _ (step_valid m valid e h) _ (step_tracks m valid e h os t))

-- On metadata of any earlier bytes, each just opened with the same seeds and the same canary for heaps of one length: the traces of two runs
-- are equal exactly when their histories pair off; and in both, after every number of requests, no byte lies in two live objects and no class
-- is over half full.
pub indistinguishable : (heap_bytes : ℕ) (s : Setup) (m m' : List ℕ)
    → (opening heap_bytes m s).answer.number ≡ 0 → (opening heap_bytes m' s).answer.number ≡ 0
    → (es fs : List Entry) → length es ≡ length fs → HeapsOfLength heap_bytes es → HeapsOfLength heap_bytes fs
    → let G = layout_of heap_bytes in
    let start = (opening heap_bytes m s).metadata in
    let start' = (opening heap_bytes m' s).metadata in
    ((trace start es ≡ trace start' fs) ↔ PairOff G (history start es) (history start' fs))
    × ((k : ℕ) → Sound G (live G [] (history start (take k es))) × Sound G (live G [] (history start' (take k fs))))
indistinguishable heap_bytes s m m' e e' es fs l h k =
    let region = has_layout heap_bytes m s e in
    let valid = fresh_valid (layout_of heap_bytes) s (laid heap_bytes).small in
    let sound : (es : List Entry) → HeapsOfLength heap_bytes es → (j : ℕ)
    → Sound (layout_of heap_bytes) (live (layout_of heap_bytes) [] (history (fresh (layout_of heap_bytes) s) (take j es))) =
    λ es h j. tracks_sound (layout_of heap_bytes) _ _ (runs_track heap_bytes region j es h _ valid [] (fresh_tracks (layout_of heap_bytes) s)) in
    rw (opened_fresh heap_bytes m s e, opened_fresh heap_bytes m' s e') (
      traces_pair heap_bytes region es fs l h k _ _ valid refl,
      λ j. (sound es h j, sound fs k j),
    )

-- In every run from a served opening, after every number of requests, each class's live count is the number of its set slots and of its live
-- objects; and no request is answered that the metadata are corrupt.
pub counted : (heap_bytes : ℕ) (s : Setup) (m : List ℕ) → (opening heap_bytes m s).answer.number ≡ 0
    → (es : List Entry) → HeapsOfLength heap_bytes es
    → let G = layout_of heap_bytes in
    let start = (opening heap_bytes m s).metadata in
    ((k : ℕ) → Counted G (left start (take k es)) (live G [] (history start (take k es)))) × Never CorruptMetadata (history start es)
counted heap_bytes s m e es h =
    let region = has_layout heap_bytes m s e in
    let valid = fresh_valid (layout_of heap_bytes) s (laid heap_bytes).small in
    let tracks = fresh_tracks (layout_of heap_bytes) s in
    rw (opened_fresh heap_bytes m s e) (
      λ k. tracks_counted (layout_of heap_bytes) _ _ (runs_track heap_bytes region k es h _ valid [] tracks),
      runs_sane heap_bytes region es h _ valid [] tracks,
    )
