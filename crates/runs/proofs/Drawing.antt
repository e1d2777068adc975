-- The generator over a run: that of the seeds after some number of draws, so that no half of it ever stops.
use Prim.Native.Nat.{ℕ, zero, suc, ◌+◌, ◌-◌, ◌%◌, ◌^◌, ◌≤◌, ◌<◌}
use mathlib.Core.Path.{◌≡◌, refl, sym, ap, ◌∙◌}
use mathlib.Core.Logic.{inl, inr}
use mathlib.Core.Bool.{Bool, true, false}
use mathlib.Core.List.{List, [], ◌∷◌}
use native.Mathlib.Omega.{arith}
use lib.ListN.{length, take, replicate, length-replicate}
use Rattle.mwc.specs.declared.Generator.{Generator}
use Rattle.mwc.specs.Draw.{next, drawn}
use Rattle.mwc.specs.Freezing.{after, EitherStopped, EitherFreezes}
use Rattle.mwc.proofs.After.{after_next, after_after, after_small}
use Rattle.geometry.specs.declared.Layout.{Layout}
use Rattle.geometry.specs.Layout.{region_of, layout_of, classes, slots, header, bitmap_at, metadata_length}
use Rattle.geometry.proofs.Geometry.{laid, bitmap_after}
use Rattle.bitmap.specs.Bitmap.{is_set, set_slot, clear_slot}
use Rattle.writing.specs.Overwrite.{overwrite}
use Rattle.request.specs.Parse.{parse, Parsed}
use Rattle.metadata.specs.Metadata.{generator_of, with_generator, count_of, with_count, bitmap_of}
use Rattle.rules.specs.Open.{Setup, fresh}
use Rattle.rules.specs.Outcome.{Outcome, metadata_after}
use Rattle.probe.specs.Probe.{probe, draws}
use Rattle.rules.specs.Allocate.{found_in}
use Rattle.rules.specs.Call.{opening}
use Rattle.runs.specs.Run.{Entry, HeapsOfLength, step_of, left}
use Rattle.metadata.proofs.Stored.{generator_length, generator_written, count_generator, canary_generator}
use Rattle.metadata.proofs.Stored.{bitmap_generator}
use Rattle.rules.proofs.Serving.{has_layout, opened_fresh}
use Rattle.rules.proofs.Seeding.{opened_never}
use Rattle.rules.proofs.Effects.{Valid, fresh_valid, allocate_changes}
use Rattle.runs.proofs.Results.{Change, Result, refusal, allocation, freeing, measuring, result}
use Rattle.runs.proofs.Runs.{acts, step_valid}

-- ---- requests

-- the generator of metadata is that of seeds after some number of draws
abbrev Drawn : Generator → List ℕ → Type 0
Drawn seeds m = (k : ℕ) × (generator_of m ≡ after k seeds)

probe_draws : (b : List ℕ) (n : ℕ) (g : Generator) (last k : ℕ) → (j : ℕ) × ((probe b n g last k).generator ≡ after j g)
unfolding probe after
probe_draws b n g last zero = (0, refl)
probe_draws b n g last (suc k) = go (is_set b n i) refl (probe_draws b n (next g) i k)
  where
    i : ℕ
    i = drawn (next g) % n

    go : (t : Bool) → is_set b n i ≡ t → (j : ℕ) × ((probe b n (next g) i k).generator ≡ after j (next g))
        → (j : ℕ) × ((probe b n g last (suc k)).generator ≡ after j g)
    go true e (j, f) = (suc j, rw (e, probe) (f ∙ after_next j g))
    go false e (j, f) = (1, rw (e, probe) refl)

module _ (seeds : Generator) (z : seeds.z < 2 ^ 32) (w : seeds.w < 2 ^ 32) where
  module _ (G : Layout) (m : List ℕ) (valid : Valid G m) where
    result_drawn : {p : Parsed} {o : Outcome} {x : Change} → Result G m p o x → Drawn seeds m
        → Drawn seeds (metadata_after G m o)
    result_drawn (refusal p r) d = d
    result_drawn (allocation size {c} {i} {g} class found t) (k, e) =
        let set : List ℕ = overwrite m (bitmap_at G c) (set_slot (bitmap_of G c m) (slots G c) i) in
        let m₁ : List ℕ = with_count set c (suc (count_of c m)) in
        let (j, f) = probe_draws (bitmap_of G c m) (slots G c) (generator_of m) 0 draws in
        let here : g ≡ (found_in G m c).generator = cc found in
        let now : g ≡ after (j + k) seeds = here ∙ f ∙ ap (after j) e ∙ after_after j k seeds in
        let (small-z, small-w) = after_small (j + k) seeds z w in
        let same : length m₁ ≡ length m = sym (generator_length m₁ g) ∙ (allocate_changes G m valid g t).fits in
        let room : header ≤ length m₁ = omega (arith, valid.fits, bitmap_after G classes) in
        (j + k, generator_written m₁ g room (rw now small-z) (rw now small-w) ∙ now)
    result_drawn (freeing offset {c} {i} start t) (k, e) =
        let b : List ℕ = clear_slot (bitmap_of G c m) (slots G c) i in
        let cleared : List ℕ = overwrite m (bitmap_at G c) b in
        (k, count_generator cleared c (count_of c m - 1) ∙ bitmap_generator G m valid.fits c t.class b ∙ e)
    result_drawn (measuring q h tells) d = rw tells.kept d

  -- ---- runs

  module _ (n : ℕ) (region : region_of n ≡ 0 → ⊥) where
    runs_drawn : (k : ℕ) (es : List Entry) → HeapsOfLength n es → (m : List ℕ) → Valid (layout_of n) m → Drawn seeds m
        → Drawn seeds (left m (take k es))
    unfolding left
    runs_drawn zero es h m valid d = d
    runs_drawn (suc k) [] h m valid d = d
    runs_drawn (suc k) (e ∷ es) (h, hs) m valid d =
        let (x, r) = result (layout_of n) m valid e.lent (parse e.request) in
        let d' : Drawn seeds (step_of m e).metadata =
        rw (h, acts n region m valid e) (result_drawn (layout_of n) m valid r d) in
        runs_drawn k es hs _ (step_valid n region m valid e h) d'

fresh_drawn : (G : Layout) (s : Setup) → s.seeds.z < 2 ^ 32 → s.seeds.w < 2 ^ 32 → Drawn s.seeds (fresh G s)
unfolding after
fresh_drawn G s z w =
    let blank : List ℕ = replicate (metadata_length G) 0 in
    let size : length blank ≡ metadata_length G = length-replicate (metadata_length G) 0 in
    let room : header ≤ length blank = omega (arith, bitmap_after G classes) in
    (0, canary_generator (with_generator blank s.seeds) s.canary ∙ generator_written blank s.seeds room z w)

-- In every run from a served opening, after every number of requests, the generator is that of the seeds after some
-- number of draws.
pub run_draws : (heap_bytes : ℕ) (s : Setup) (m : List ℕ) → (opening heap_bytes m s).answer.number ≡ 0
    → s.seeds.z < 2 ^ 32 → s.seeds.w < 2 ^ 32 → (es : List Entry) → HeapsOfLength heap_bytes es → (k : ℕ)
    → (n : ℕ) × (generator_of (left (opening heap_bytes m s).metadata (take k es)) ≡ after n s.seeds)
run_draws heap_bytes s m e z w es h k =
    let G : Layout = layout_of heap_bytes in
    let valid : Valid G (fresh G s) = fresh_valid G s (laid heap_bytes).small in
    rw (opened_fresh heap_bytes m s e)
    (runs_drawn s.seeds z w heap_bytes (has_layout heap_bytes m s e) k es h _ valid (fresh_drawn G s z w))

-- So neither half of it is ever zero, or left unchanged by a draw.
pub never_stops : (heap_bytes : ℕ) (s : Setup) (m : List ℕ) → (opening heap_bytes m s).answer.number ≡ 0
    → s.seeds.z < 2 ^ 32 → s.seeds.w < 2 ^ 32 → (es : List Entry) → HeapsOfLength heap_bytes es → (k : ℕ)
    → EitherStopped (generator_of (left (opening heap_bytes m s).metadata (take k es))) → ⊥
never_stops heap_bytes s m e z w es h k stopped =
    opened_never heap_bytes m s z w e (go (run_draws heap_bytes s m e z w es h k) stopped)
  where
    go : {g : Generator} → (n : ℕ) × (g ≡ after n s.seeds) → EitherStopped g → EitherFreezes s.seeds
    go (n, q) (inl f) = inl (n, rw q at f)
    go (n, q) (inr f) = inr (n, rw q at f)
