-- The worked examples to prove (the paper's marked dozen): what the definitions give, and what the paper says.
use Rattle.std.specs.Prelude.{ℕ, List, [], ◌∷◌, ◌++◌, length, take, drop, set, replicate}
use Rattle.mwc.specs.Draw.{next, drawn}
use Rattle.geometry.specs.declared.Layout.{Layout}
use Rattle.geometry.specs.Layout.{layout_of, class_of, metadata_length}
use Rattle.rules.specs.Open.{setup}
use Rattle.rules.specs.Serve.{lent}
use Rattle.rules.specs.Call.{Call, serve, opening}
use Rattle.known_answers.specs.Calls.{Row, example, seeds, numbers, heap_of, to_allocate, to_free, to_copy, to_copy_string}
use Rattle.known_answers.specs.Calls.{to_copy_padded, answer_to, left_after, voting}

-- ---- a heap with regions of 4,096 bytes, opened with z = 1, w = 1 and zeros as the pattern

abbrev pub R : ℕ
R = 4_096

abbrev pub G : Layout
G = layout_of (heap_of R)

unfoldable pub start : List ℕ
start = (opening (heap_of R) (replicate (metadata_length G) 0) (setup 1 1 0)).metadata

-- with an object of 5 bytes, which lies at 640
unfoldable pub one_object : List ℕ
one_object = left_after R start (to_allocate 5)

-- the answer to a request while that object is live, and then the 8 bytes at 640 and the one after them, which were FF
-- hex
unfoldable pub copying : List ℕ → List ℕ → List ℕ
copying r source =
    let c : Call = serve (heap_of R) one_object r (lent source) in
    numbers c.answer ++ take 9 (drop 640 (c.heap (replicate (heap_of R) 0xff)))

-- votes on blocks of one byte
unfoldable pub bytes_voted : List ℕ → List ℕ
bytes_voted blocks = voting blocks (length blocks) 1 1

-- ---- the table

unfoldable pub table : List Row
table =
    example (drawn (next (seeds 1 1)) ∷ drawn (next (next (seeds 1 1))) ∷ drawn (next (next (next (seeds 1 1)))) ∷ [])
    (2_422_818_384 ∷ 1_583_405_312 ∷ 3_876_119_375 ∷ [])
    ∷ example (drawn (next (seeds 5 65_535)) ∷ []) (408_730_032 ∷ [])
    ∷ example one_object (set (set (set (set (set (set (replicate 190 0) 0 0x69) 1 0x90) 4 0x50) 5 0x46) 8 0x01) 70 0x01)
    ∷ example (class_of G 8 ∷ class_of G 9 ∷ []) (0 ∷ 1 ∷ [])
    ∷ example (answer_to R start (to_allocate 2_048) ++ answer_to R (left_after R start (to_allocate 2_048)) (to_allocate 2_048))
    (0 ∷ 32_768 ∷ 7 ∷ 0 ∷ [])
    ∷ example (copying (to_copy 643) (1 ∷ 2 ∷ 3 ∷ 4 ∷ 5 ∷ 6 ∷ 7 ∷ 8 ∷ []))
    (0 ∷ 5 ∷ 0xff ∷ 0xff ∷ 0xff ∷ 1 ∷ 2 ∷ 3 ∷ 4 ∷ 5 ∷ 0xff ∷ [])
    ∷ example (copying (to_copy_string 640) (0x41 ∷ 0x42 ∷ 0x00 ∷ 0x43 ∷ []))
    (0 ∷ 3 ∷ 0x41 ∷ 0x42 ∷ 0x00 ∷ 0xff ∷ 0xff ∷ 0xff ∷ 0xff ∷ 0xff ∷ 0xff ∷ [])
    ∷ example (copying (to_copy_padded 640 4) (0x41 ∷ 0x00 ∷ 0x43 ∷ []))
    (0 ∷ 4 ∷ 0x41 ∷ 0x00 ∷ 0x00 ∷ 0x00 ∷ 0xff ∷ 0xff ∷ 0xff ∷ 0xff ∷ 0xff ∷ [])
    ∷ example (answer_to R start (to_free 49_152)) (8 ∷ 0 ∷ [])
    ∷ example (bytes_voted (0x41 ∷ 0x42 ∷ 0x41 ∷ [])) (0 ∷ 5 ∷ 2 ∷ 0 ∷ 0x41 ∷ [])
    ∷ example (bytes_voted (0x42 ∷ 0x41 ∷ 0x41 ∷ 0x42 ∷ [])) (0 ∷ 9 ∷ 2 ∷ 0 ∷ 0x42 ∷ [])
    ∷ example (bytes_voted (0x41 ∷ 0x42 ∷ 0x43 ∷ [])) (12 ∷ 0 ∷ 0 ∷ 0 ∷ 0xff ∷ [])
    ∷ []
