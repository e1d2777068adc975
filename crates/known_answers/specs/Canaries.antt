-- Worked examples of canaries: what openings and frees fill with them, and what inspections find. What is right was
-- worked out from the paper, apart from the definitions.
use Rattle.std.specs.Prelude.{ℕ, ◌%◌, List, [], ◌∷◌, ◌++◌, take, drop, set, replicate}
use Rattle.search.specs.Those.{those}
use Rattle.search.specs.Tabulate.{tabulate}
use Rattle.writing.specs.Overwrite.{overwrite}
use Rattle.geometry.specs.Layout.{layout_of, counts_at, canary_at, header}
use Rattle.rules.specs.Open.{setup}
use Rattle.rules.specs.Serve.{lent}
use Rattle.rules.specs.Call.{Call, State, state_of, serve_on, state_after, opening}
use Rattle.rules.specs.Inspect.{is_hit}
use Rattle.known_answers.specs.Calls.{Row, example, numbers, heap_of, to_allocate, to_free, inspecting}

-- ---- regions of 1,024 bytes: class 0 has slots of 8 bytes, class 5 of 256 (heap from 5,120), class 7 one slot (heap
-- from 7,168), class 8 none

-- AA hex throughout the heap and FF hex throughout its 94 bytes of metadata, after an opening with some z, and with 1,
-- 2, 3 and 4 as the pattern
unfoldable pub opened_with : ℕ → State
opened_with z =
    let c : Call = opening (heap_of 1_024) (replicate 94 0xff) (setup z 1 0x04030201) in
    state_of (c.heap (replicate (heap_of 1_024) 0xaa)) c.metadata

unfoldable pub newly : State
newly = opened_with 1

-- a heap in which no byte is like those beside it, after an opening with 5, 6, 7 and 8 as the pattern
unfoldable pub over_uneven : List ℕ
over_uneven =
    let c : Call = opening (heap_of 1_024) (replicate 94 0xff) (setup 1 1 0x08070605) in
    c.heap (tabulate (λ x. x % 251) 0 (heap_of 1_024))

-- n bytes of a heap
unfoldable pub part : ℕ → ℕ → List ℕ → List ℕ
part offset n heap = take n (drop offset heap)

-- ---- frees

-- an object of 5 bytes lies at 640; its slot is written over, and so is a byte on either side
unfoldable pub overrun : State
overrun =
    let s : State = state_after newly (to_allocate 5) (lent []) in
    state_of (overwrite s.heap 639 (replicate 10 0xff)) s.metadata

-- the answer to a free then, with metadata m, and the ten bytes
unfoldable pub freeing : List ℕ → ℕ → List ℕ
freeing m offset =
    let s : State = state_of overrun.heap m in
    let c : Call = serve_on s (to_free offset) (lent []) in
    numbers c.answer ++ part 639 10 (c.heap s.heap)

-- ---- inspections

-- the hits in classes 0 to 5 of the newly opened heap: where nothing is hit, larger slots take seconds to compute
unfoldable pub new_hits : List ℕ
new_hits = those (is_hit (layout_of (heap_of 1_024)) newly.metadata newly.heap) 0 6_144

-- every slot is live
unfoldable pub none_clear : List ℕ
none_clear = take header newly.metadata ++ replicate 34 0xff

-- but the first eight of class 0 (byte 60) and slot 1 of class 5 (byte 91): less to compute
unfoldable pub few_clear : List ℕ
few_clear = set (set none_clear 60 0x00) 91 0xfd

-- but slots 96 to 103 of class 0 (byte 72) and the only one of class 7 (byte 93)
unfoldable pub later_clear : List ℕ
later_clear = set (set none_clear 72 0x00) 93 0xfe

-- the newly opened heap with the bytes at some offsets changed
unfoldable pub changed : List ℕ → List ℕ
changed [] = newly.heap
changed (offset ∷ offsets) = set (changed offsets) offset 0

-- in two of the slots that few_clear has: the first byte of one, and another's fourth
unfoldable pub two_hit : List ℕ
two_hit = changed (43 ∷ 5_376 ∷ [])

-- ---- the table

unfoldable pub canaries : List Row
canaries =
    -- an opening fills each slot from its first byte on
    example (part 0 9 newly.heap) (1 ∷ 2 ∷ 3 ∷ 4 ∷ 1 ∷ 2 ∷ 3 ∷ 4 ∷ 1 ∷ [])
    -- a class's only slot, at its start and its end, and then a region without slots
    ∷ example (part 7_168 4 newly.heap) (1 ∷ 2 ∷ 3 ∷ 4 ∷ [])
    ∷ example (part 8_188 6 newly.heap) (1 ∷ 2 ∷ 3 ∷ 4 ∷ 0xaa ∷ 0xaa ∷ [])
    ∷ example (part 12_287 1 newly.heap) (0xaa ∷ [])
    -- what lies in no slot is kept, each byte as it was: a region without slots at its start, and the heap's end
    ∷ example (part 8_190 6 over_uneven) (7 ∷ 8 ∷ 160 ∷ 161 ∷ 162 ∷ 163 ∷ [])
    ∷ example (part 12_284 4 over_uneven) (236 ∷ 237 ∷ 238 ∷ 239 ∷ [])
    -- the pattern is kept behind the counts
    ∷ example newly.metadata (1 ∷ 0 ∷ 0 ∷ 0 ∷ 1 ∷ replicate 51 0 ++ (1 ∷ 2 ∷ 3 ∷ 4 ∷ replicate 34 0))
    -- a refused opening leaves everything as it was
    ∷ example (part 0 9 (opened_with 0).heap) (replicate 9 0xaa)
    ∷ example (opened_with 0).metadata (replicate 94 0xff)
    -- a free fills its slot and no byte beside it, with the pattern in the metadata
    ∷ example (freeing overrun.metadata 640) (0 ∷ 8 ∷ 0xff ∷ 1 ∷ 2 ∷ 3 ∷ 4 ∷ 1 ∷ 2 ∷ 3 ∷ 4 ∷ 0xff ∷ [])
    ∷ example (freeing (set overrun.metadata canary_at 5) 640) (0 ∷ 8 ∷ 0xff ∷ 5 ∷ 2 ∷ 3 ∷ 4 ∷ 5 ∷ 2 ∷ 3 ∷ 4 ∷ 0xff ∷ [])
    -- a refused one fills nothing: no start, a clear slot, and none counted
    ∷ example (freeing overrun.metadata 641) (9 ∷ 0 ∷ replicate 10 0xff)
    ∷ example (freeing overrun.metadata 648) (10 ∷ 0 ∷ replicate 10 0xff)
    ∷ example (freeing (set overrun.metadata counts_at 0) 640) (13 ∷ 0 ∷ replicate 10 0xff)
    -- nothing is hit where the heap was newly opened
    ∷ example new_hits []
    -- one byte changed, the last of a clear slot; the list keeps its later entries
    ∷ example (inspecting (changed (5_631 ∷ [])) few_clear (7 ∷ 8 ∷ [])) (0 ∷ 1 ∷ 5_376 ∷ 8 ∷ [])
    -- a byte changed in a live slot, and one in no slot
    ∷ example (inspecting (changed (64 ∷ 8_192 ∷ [])) few_clear (7 ∷ 8 ∷ [])) (0 ∷ 0 ∷ 7 ∷ 8 ∷ [])
    -- slots hit in two classes, with a list that is just long enough, and with one that is an entry too short
    ∷ example (inspecting two_hit few_clear (7 ∷ 8 ∷ [])) (0 ∷ 2 ∷ 40 ∷ 5_376 ∷ [])
    ∷ example (inspecting two_hit few_clear (7 ∷ [])) (14 ∷ 0 ∷ 7 ∷ [])
    -- a byte changed in each of nine slots: of slot 96 of class 0 the first, of the next the second, .., of slot 103
    -- the eighth, and of class 7's only slot the 300th
    ∷ example (inspecting (changed (768 ∷ 777 ∷ 786 ∷ 795 ∷ 804 ∷ 813 ∷ 822 ∷ 831 ∷ 7_467 ∷ [])) later_clear (replicate 9 7))
    (0 ∷ 9 ∷ 768 ∷ 776 ∷ 784 ∷ 792 ∷ 800 ∷ 808 ∷ 816 ∷ 824 ∷ 7_168 ∷ [])
    -- refused before that as requests are: 65 of 128 counted in class 0, and a heap and metadata a byte short
    ∷ example (inspecting two_hit (set few_clear counts_at 65) (7 ∷ [])) (13 ∷ 0 ∷ 7 ∷ [])
    ∷ example (inspecting (drop 1 two_hit) few_clear (7 ∷ [])) (2 ∷ 0 ∷ 7 ∷ [])
    ∷ example (inspecting two_hit (drop 1 few_clear) (7 ∷ [])) (3 ∷ 0 ∷ 7 ∷ [])
    ∷ []
