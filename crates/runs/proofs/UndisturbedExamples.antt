-- Examples of requests where nobody else writes.
use Prim.Native.Nat.{ℕ, ◌*◌}
use mathlib.Core.Path.{◌≡◌, refl}
use mathlib.Core.List.{List, [], ◌∷◌, ◌++◌}
use lib.ListN.{take, drop, replicate}
use Rattle.search.specs.First.{first}
use Rattle.geometry.specs.declared.Layout.{Layout}
use Rattle.geometry.specs.Layout.{classes, heap_length, layout_of, slot_size, counts_at, bitmap_at}
use Rattle.bitmap.specs.Bitmap.{put_byte}
use Rattle.request.specs.Parse.{parse, request_bytes}
use Rattle.answer.specs.Reply.{served}
use Rattle.metadata.specs.Metadata.{with_generator}
use Rattle.judge.specs.Judge.{lengths, admit}
use Rattle.rules.specs.Object.{space, copy}
use Rattle.rules.specs.Serve.{Lent, lent, lent_with}
use Rattle.probe.specs.Probe.{probe}
use Rattle.rules.specs.Allocate.{allocate}
use Rattle.rules.specs.Read.{read}
use Rattle.rules.specs.Call.{State, state_of, serve_on, serving}
use Rattle.runs.specs.Undisturbed.{undisturbed}

-- a heap with regions of 1,024 bytes
abbrev G : Layout
G = layout_of (classes * 1_024)

-- zeros, but for a generator that places the first object of class 0 at 640
abbrev blank : State
blank = state_of (replicate (heap_length G) 0) (with_generator (replicate 94 0) (record { z = 1; w = 1 }))

abbrev allocating : List ℕ × Lent
allocating = (request_bytes 0 5 0, lent [])

abbrev copying : List ℕ × Lent
copying = (request_bytes 3 640 0, lent (7 ∷ 8 ∷ 9 ∷ []))

-- of no live object, so that the page is shown
abbrev reading : List ℕ × Lent
reading = (request_bytes 6 100 2, lent_with [] (4 ∷ 5 ∷ []))

-- an object is placed, a page read, and three bytes copied into the object: they lie there, and it is counted and its bit set
each_served : let s = undisturbed blank (allocating ∷ reading ∷ copying ∷ []) in
    (take 5 (drop 639 s.heap) ≡ 0 ∷ 7 ∷ 8 ∷ 9 ∷ 0 ∷ [])
    × (drop counts_at s.metadata ≡ 1 ∷ replicate 61 0 ++ (1 ∷ replicate 23 0))
unfolding undisturbed serving admit lengths first bitmap_at slot_size parse allocate probe put_byte copy read space
each_served = (refl, refl)

-- what is lent beside a request reaches it: two bytes of the page are shown
page_shown : (serve_on blank reading.0 reading.1).answer ≡ served 2
unfolding serving admit lengths first bitmap_at slot_size parse read space
page_shown = refl
