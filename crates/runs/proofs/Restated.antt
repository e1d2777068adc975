-- The theorems of Runs.antt once more, in the second wordings.
use Prim.Native.Nat.{ℕ}
use mathlib.Core.Path.{◌≡◌}
use mathlib.Core.List.{List, [], map}
use mathlib.Core.Logic.Iff
use mathlib.Core.Logic.{◌↔◌}
use lib.ListN.{length, take}
use Rattle.geometry.specs.Layout.{layout_of}
use Rattle.answer.specs.declared.Refusal.TheVariants.{CorruptMetadata}
use Rattle.rules.specs.Open.{Setup}
use Rattle.rules.specs.Call.{opening}
use Rattle.runs.specs.Run.{Entry, trace, left, history}
use Rattle.runs.specs.Live.{live}
use Rattle.runs.specs.Wordings.{HeapsAllOf, trait, SoundByEvents, CountedByLists, NowhereIn}
use Rattle.runs.proofs.Wordings.{heaps_places, never_places, counted_lists}
use Rattle.runs.proofs.Traits.{pair_off_traits, history_refuses}
use Rattle.runs.proofs.Lasting.{sound_events}
use Rattle.runs.proofs.Runs.{indistinguishable, counted}

-- Traces are equal exactly when the histories' traits are; and after every number of requests no two events have left live objects that
-- overlap, and no class more than half its slots.
pub indistinguishable_by_traits : (heap_bytes : ℕ) (s : Setup) (m m' : List ℕ)
    → (opening heap_bytes m s).answer.number ≡ 0 → (opening heap_bytes m' s).answer.number ≡ 0
    → (es fs : List Entry) → length es ≡ length fs → HeapsAllOf heap_bytes es → HeapsAllOf heap_bytes fs
    → let G = layout_of heap_bytes in
    let start = (opening heap_bytes m s).metadata in
    let start' = (opening heap_bytes m' s).metadata in
    ((trace start es ≡ trace start' fs) ↔ (map (trait G) (history start es) ≡ map (trait G) (history start' fs)))
    × ((k : ℕ) → SoundByEvents G (history start (take k es)) × SoundByEvents G (history start' (take k fs)))
indistinguishable_by_traits heap_bytes s m m' e e' es fs l h k =
    let (pairs, sound) = indistinguishable heap_bytes s m m' e e' es fs l ((heaps_places heap_bytes es).1 h) ((heaps_places heap_bytes fs).1 k) in
    let start = (opening heap_bytes m s).metadata in
    let start' = (opening heap_bytes m' s).metadata in (
      Iff.trans pairs
          (pair_off_traits (layout_of heap_bytes) (history start es) (history start' fs) (history_refuses start es) (history_refuses start' fs)),
      λ j. let (left, right) = sound j in ((sound_events (layout_of heap_bytes) _).0 left, (sound_events (layout_of heap_bytes) _).0 right),
    )

-- After every number of requests each class's live count is the length of the list of its set slots, and of that of its live objects; and no
-- request is answered that the metadata are corrupt.
pub counted_by_lists : (heap_bytes : ℕ) (s : Setup) (m : List ℕ) → (opening heap_bytes m s).answer.number ≡ 0
    → (es : List Entry) → HeapsAllOf heap_bytes es
    → let G = layout_of heap_bytes in
    let start = (opening heap_bytes m s).metadata in
    ((k : ℕ) → CountedByLists G (left start (take k es)) (live G [] (history start (take k es)))) × NowhereIn CorruptMetadata (history start es)
counted_by_lists heap_bytes s m e es h =
    let (counts, never) = counted heap_bytes s m e es ((heaps_places heap_bytes es).1 h) in
    (λ k. (counted_lists (layout_of heap_bytes) _ _).0 (counts k), (never_places CorruptMetadata (history (opening heap_bytes m s).metadata es)).0 never)
