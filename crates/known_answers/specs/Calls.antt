-- Calls and what they come to, as lists of numbers for tables of worked examples.
use Rattle.std.specs.Prelude.{ℕ, ◌*◌, List, [], ◌∷◌, ◌++◌, replicate}
use Rattle.mwc.specs.declared.Generator.{Generator}
use Rattle.geometry.specs.Layout.{layout_of, classes, metadata_length}
use Rattle.request.specs.Parse.{request_bytes}
use Rattle.answer.specs.declared.Reply.{Reply}
use Rattle.view.specs.declared.Place.{Place}
use Rattle.view.specs.declared.Place.TheVariants.{Heap, Page}
use Rattle.metadata.specs.Metadata.{with_generator}
use Rattle.view.specs.View.{view_bytes}
use Rattle.rules.specs.Open.{setup}
use Rattle.rules.specs.Serve.{lent_with, lent}
use Rattle.rules.specs.Call.{Call, serve, opening}
use Rattle.rules.specs.Inspect.{Inspection, inspection}
use Rattle.vote.specs.declared.Tally.{Tally}
use Rattle.vote.specs.Decide.{Decision, decide, tally, output_after}

-- what the definitions give, and what is right
pub record Row : Type 0 where
  pub computed : List ℕ
  pub expected : List ℕ

unfoldable pub example : List ℕ → List ℕ → Row
example computed expected = record { computed = computed; expected = expected }

abbrev pub seeds : ℕ → ℕ → Generator
seeds z w = record { z = z; w = w }

-- an answer's number and value
unfoldable pub numbers : Reply → List ℕ
numbers a = a.number ∷ a.value ∷ []

-- ---- a heap with regions of R bytes

abbrev pub heap_of : ℕ → ℕ
heap_of R = classes * R

-- the answer to an opening on metadata of some length, FF hex throughout, with zeros as the pattern
unfoldable pub answer_to_opening : ℕ → ℕ → ℕ → ℕ → List ℕ
answer_to_opening R metadata_bytes z w = numbers (opening (heap_of R) (replicate metadata_bytes 0xff) (setup z w 0)).answer

-- metadata with clear bitmaps, counts of 0, zeros as the pattern and any generator, of an opening or not
unfoldable pub clear : ℕ → ℕ → ℕ → List ℕ
clear R z w = with_generator (replicate (metadata_length (layout_of (heap_of R))) 0) (seeds z w)

-- requests, by operation
abbrev pub to_allocate : ℕ → List ℕ
to_allocate size = request_bytes 0 size 0

abbrev pub to_free : ℕ → List ℕ
to_free offset = request_bytes 1 offset 0

abbrev pub to_measure : ℕ → List ℕ
to_measure offset = request_bytes 2 offset 0

abbrev pub to_copy : ℕ → List ℕ
to_copy offset = request_bytes 3 offset 0

abbrev pub to_copy_string : ℕ → List ℕ
to_copy_string offset = request_bytes 4 offset 0

abbrev pub to_copy_padded : ℕ → ℕ → List ℕ
to_copy_padded offset count = request_bytes 5 offset count

abbrev pub to_read : ℕ → ℕ → List ℕ
to_read offset count = request_bytes 6 offset count

-- the answer to a request on metadata m, and the metadata after it
unfoldable pub answer_to : ℕ → List ℕ → List ℕ → List ℕ
answer_to R m r = numbers (serve (heap_of R) m r (lent [])).answer

unfoldable pub left_after : ℕ → List ℕ → List ℕ → List ℕ
left_after R m r = (serve (heap_of R) m r (lent [])).metadata

-- where bytes lie that are shown: 0 and their offset in the heap, or 1 for the front of the page
unfoldable pub place_of : Place → List ℕ
place_of (Heap offset) = 0 ∷ offset ∷ []
place_of Page = 1 ∷ []

-- the answer to a request that is lent a heap and a page, and where the bytes lie that it shows, and these bytes
unfoldable pub showing : List ℕ → List ℕ → ℕ → List ℕ → List ℕ → List ℕ
showing heap page R m r =
    let c : Call = serve (heap_of R) m r (lent_with [] page) in
    numbers c.answer ++ (place_of c.view.place ++ view_bytes c.view heap page)

-- the answer to an inspection of a heap with metadata m, and then the list that it was lent
unfoldable pub inspecting : List ℕ → List ℕ → List ℕ → List ℕ
inspecting heap m list =
    let i : Inspection = inspection heap m list in
    numbers i.answer ++ i.list

-- ---- votes

-- a vote of k replicas on blocks of some size: the answer's number, mask, value and replica, and then the output, which
-- was FF hex throughout
unfoldable pub voting : List ℕ → ℕ → ℕ → ℕ → List ℕ
voting blocks k size output_bytes =
    let d : Decision = decide blocks k size output_bytes in
    let t : Tally = tally d in
    t.number ∷ t.mask ∷ t.value ∷ t.replica ∷ output_after d (replicate output_bytes 0xff)
