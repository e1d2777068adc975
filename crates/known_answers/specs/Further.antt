-- Further worked examples: limits, edges, and metadata that no opening made. What is right was worked out from the
-- paper, apart from the definitions.
use Rattle.std.specs.Prelude.{ℕ, ◌+◌, ◌*◌, ◌/◌, ◌^◌, min, List, [], ◌∷◌, ◌++◌, take, drop, set, replicate}
use Rattle.search.specs.Tabulate.{tabulate}
use Rattle.words.specs.Word.{put_word}
use Rattle.geometry.specs.Layout.{layout_of, header, class_of}
use Rattle.request.specs.Parse.{request_bytes}
use Rattle.rules.specs.Serve.{lent}
use Rattle.rules.specs.Call.{serve}
use Rattle.known_answers.specs.Calls.{Row, example, heap_of, answer_to_opening, clear, to_allocate, to_free, to_measure, to_copy}
use Rattle.known_answers.specs.Calls.{to_copy_string, to_copy_padded, to_read, answer_to, left_after, showing, voting}
use Rattle.known_answers.specs.Table.{copying, bytes_voted}

-- ---- regions of 4,096 bytes: class 4 has 32 slots of 128 bytes, its bitmap is bytes 180 to 183 and its count byte 24

-- w is one that draws leave as it is, so that each of the 32 tests slot 31, which is set
unfoldable pub last_set : List ℕ
last_set = set (set (clear 4_096 1 0x464fffff) 183 0x80) 24 1

-- each draw is 0, and slots 0, 1 and 3 are set
unfoldable pub first_set : List ℕ
first_set = set (set (clear 4_096 0 0) 180 0x0b) 24 3

-- one of the two slots of class 8 is set, and counted in byte 40
unfoldable pub at_capacity : List ℕ
at_capacity = set (set (clear 4_096 0x9069 0x4650) 188 0x01) 40 1

-- the paper's bench run before its last request; a measuring and what was refused leave no trace
unfoldable pub after_seven : List ℕ
after_seven = left_after 4_096 (left_after 4_096 (left_after 4_096 (clear 4_096 1 1) (to_allocate 5)) (to_allocate 100)) (to_free 640)

-- a name of at most nine letters, A to I
unfoldable pub letters : ℕ → List ℕ
letters n = take n (0x41 ∷ 0x42 ∷ 0x43 ∷ 0x44 ∷ 0x45 ∷ 0x46 ∷ 0x47 ∷ 0x48 ∷ 0x49 ∷ [])

-- what was there before a copy
unfoldable pub kept : ℕ → List ℕ
kept n = replicate n 0xff

-- ---- regions of 1,024 bytes: class 5 has 4 slots (byte 91), class 7 one (byte 93, heap from 7,168), class 8 none

-- of the 128 slots of class 0 the first 56 are set, and of the next eight those of a byte; the class counts so many
unfoldable pub near_half : ℕ → ℕ → List ℕ
near_half byte count =
    let m : List ℕ = clear 1_024 1 1 in
    set (take header m ++ (replicate 7 0xff ++ (byte ∷ drop (header + 8) m))) 8 count

-- bits of slots of class 5, as many as byte 28 counts, and bits beyond its four slots
unfoldable pub class_five : ℕ → ℕ → List ℕ
class_five byte count = set (set (clear 1_024 1 1) 91 byte) 28 count

unfoldable pub only_slot_set : List ℕ
only_slot_set = set (clear 1_024 1 1) 93 0x01

-- clear bitmaps, and one byte of the counts
unfoldable pub counting : ℕ → ℕ → List ℕ
counting at byte = set (clear 1_024 1 1) at byte

-- the slot of class 7 ends with 1, 2, 3 and 4; what is shown with a page, and with one of three bytes
unfoldable pub shown_with : List ℕ → List ℕ → List ℕ → List ℕ
shown_with page m r =
    let heap : List ℕ = replicate 8_188 0x11 ++ (1 ∷ 2 ∷ 3 ∷ 4 ∷ replicate 4_096 0x22) in
    showing heap page 1_024 m r

unfoldable pub shown_there : List ℕ → List ℕ → List ℕ
shown_there = shown_with (0x70 ∷ 0x71 ∷ 0x72 ∷ [])

-- ---- regions of any length R: class c has R / (8 * 2 ^ c) slots, and its count is the word at 8 + 4 * c

-- one class counts so many more live objects than half of its slots; the numbers of the answers, for each class
unfoldable pub each_above : ℕ → ℕ → List ℕ
each_above R more =
    let m : ℕ → List ℕ = λ c. put_word (clear R 1 1) (8 + 4 * c) (R / (16 * 2 ^ c) + more) in
    tabulate (λ c. (serve (heap_of R) (m c) (to_measure 0) (lent [])).answer.number) 0 12

-- ---- the table

unfoldable pub further : List Row
further =
    -- the walk goes round the end; z is that after 32 draws
    example (answer_to 4_096 last_set (to_allocate 128)) (0 ∷ 16_384 ∷ [])
    ∷ example (left_after 4_096 last_set (to_allocate 128))
    (set (set (set (clear 4_096 0x57e707d4 0x464fffff) 183 0x80) 180 0x01) 24 2)
    -- the walk goes up from the slot tested to the next clear one
    ∷ example (answer_to 4_096 first_set (to_allocate 128)) (0 ∷ 16_640 ∷ [])
    ∷ example (left_after 4_096 first_set (to_allocate 128)) (set (set (clear 4_096 0 0) 180 0x0f) 24 4)
    -- refused at capacity, with the generator where it was
    ∷ example (answer_to 4_096 at_capacity (to_allocate 2_048)) (7 ∷ 0 ∷ [])
    ∷ example (left_after 4_096 at_capacity (to_allocate 2_048)) at_capacity
    -- bits beyond the slots are kept: the third draw takes slot 3, and a free clears slot 0
    ∷ example (answer_to 1_024 (class_five 0xf1 1) (to_allocate 256)) (0 ∷ 5_888 ∷ [])
    ∷ example (drop 8 (left_after 1_024 (class_five 0xf1 1) (to_allocate 256))) (drop 8 (class_five 0xf9 2))
    ∷ example (answer_to 1_024 (class_five 0xf1 1) (to_free 5_120)) (0 ∷ 256 ∷ [])
    ∷ example (left_after 1_024 (class_five 0xf1 1) (to_free 5_120)) (class_five 0xf0 0)
    -- counts are believed: with 64 of 128 slots set and none counted one is taken, with none set and 64 counted none
    ∷ example (answer_to 1_024 (near_half 0xff 0) (to_allocate 0)) (0 ∷ 640 ∷ [])
    ∷ example (answer_to 1_024 (counting 8 64) (to_allocate 0)) (7 ∷ 0 ∷ [])
    -- refused as corrupt, before the request is read: 65 of 128 counted, one in a class of one slot and in one of none,
    -- and 2^31, of which twice is 0 in 32 bits; half is not refused
    ∷ example (answer_to 1_024 (counting 8 65) (request_bytes 7 0 0)) (13 ∷ 0 ∷ [])
    ∷ example (left_after 1_024 (counting 8 65) (to_free 0)) (counting 8 65)
    ∷ example (answer_to 1_024 (counting 36 1) (to_measure 0)) (13 ∷ 0 ∷ [])
    ∷ example (answer_to 1_024 (counting 52 1) (to_copy 12_288)) (13 ∷ 0 ∷ [])
    ∷ example (answer_to 1_024 (counting 11 0x80) (to_allocate 16_385)) (13 ∷ 0 ∷ [])
    ∷ example (answer_to 1_024 (counting 8 64) (to_measure 0)) (0 ∷ 0 ∷ [])
    -- the same of every class: one above half, and half, where each has two slots or more, and where some have one or
    -- none
    ∷ example (each_above 32_768 1) (replicate 12 13)
    ∷ example (each_above 32_768 0) (replicate 12 0)
    ∷ example (each_above 1_024 1) (replicate 12 13)
    ∷ example (each_above 1_024 0) (replicate 12 0)
    -- but after the lengths
    ∷ example (answer_to 1_024 (drop 1 (counting 8 65)) (to_free 0)) (3 ∷ 0 ∷ [])
    ∷ example (answer_to 1_536 (counting 8 65) (to_free 0)) (2 ∷ 0 ∷ [])
    -- refused as corrupt, and nothing changed, z and w neither: an allocation that finds no clear slot, and a free
    -- where none is counted; a clear slot is not allocated all the same
    ∷ example (answer_to 1_024 (class_five 0x0f 1) (to_allocate 256)) (13 ∷ 0 ∷ [])
    ∷ example (left_after 1_024 (class_five 0x0f 1) (to_allocate 256)) (class_five 0x0f 1)
    ∷ example (answer_to 1_024 (class_five 0x01 0) (to_free 5_120)) (13 ∷ 0 ∷ [])
    ∷ example (left_after 1_024 (class_five 0x01 0) (to_free 5_120)) (class_five 0x01 0)
    ∷ example (answer_to 1_024 (class_five 0x01 0) (to_free 5_376)) (10 ∷ 0 ∷ [])
    -- and the same of all slots set and two counted is at capacity
    ∷ example (answer_to 1_024 (class_five 0x0f 2) (to_allocate 256)) (7 ∷ 0 ∷ [])
    -- a region without slots
    ∷ example (answer_to 1_024 (clear 1_024 1 1) (to_allocate 2_048)) (6 ∷ 0 ∷ [])
    ∷ example (answer_to 1_024 (clear 1_024 1 1) (to_free 8_192)) (9 ∷ 0 ∷ [])
    ∷ example (answer_to 1_024 (clear 1_024 1 1) (to_measure 8_192)) (0 ∷ 0 ∷ [])
    -- a region with one slot, clear and then set; it may count none, so that it is not freed
    ∷ example (answer_to 1_024 (clear 1_024 1 1) (to_allocate 1_024)) (6 ∷ 0 ∷ [])
    ∷ example (answer_to 1_024 (clear 1_024 1 1) (to_free 7_168)) (10 ∷ 0 ∷ [])
    ∷ example (answer_to 1_024 (clear 1_024 1 1) (to_free 7_169)) (9 ∷ 0 ∷ [])
    ∷ example (answer_to 1_024 only_slot_set (to_measure 7_170)) (0 ∷ 1_022 ∷ [])
    ∷ example (answer_to 1_024 only_slot_set (to_free 7_168)) (13 ∷ 0 ∷ [])
    ∷ example (left_after 1_024 only_slot_set (to_free 7_168)) only_slot_set
    -- sizes and offsets
    ∷ example (class_of (layout_of (heap_of 32_768)) 16_384 ∷ class_of (layout_of (heap_of 32_768)) 16_385 ∷ []) (11 ∷ 12 ∷ [])
    ∷ example (class_of (layout_of (heap_of 32_768)) 0 ∷ class_of (layout_of (heap_of 32_768)) 1 ∷ []) (0 ∷ 0 ∷ [])
    ∷ example (answer_to 32_768 (clear 32_768 1 1) (to_allocate 16_384)) (0 ∷ 360_448 ∷ [])
    ∷ example (answer_to 32_768 (clear 32_768 1 1) (to_allocate 16_385)) (5 ∷ 0 ∷ [])
    ∷ example (answer_to 1_024 (clear 1_024 1 1) (to_measure 12_287)) (0 ∷ 0 ∷ [])
    ∷ example (answer_to 1_024 (clear 1_024 1 1) (to_measure 12_288)) (8 ∷ 0 ∷ [])
    -- requests for nothing: the third draw takes slot 335, which has 8 bytes; a class with 63 of 128 slots live takes
    -- one more, and one with 64 none
    ∷ example (answer_to 4_096 after_seven (to_allocate 0)) (0 ∷ 2_680 ∷ [])
    ∷ example (left_after 4_096 after_seven (to_allocate 0))
    (set (set (set (set (clear 4_096 0x2a58ab6f 0x3b99e34f) 8 1) 24 1) 101 0x80) 180 0x01)
    ∷ example (answer_to 4_096 (left_after 4_096 after_seven (to_allocate 0)) (to_measure 2_680)) (0 ∷ 8 ∷ [])
    ∷ example (answer_to 1_024 (near_half 0x7f 63) (to_allocate 0)) (0 ∷ 640 ∷ [])
    ∷ example (answer_to 1_024 (near_half 0xff 64) (to_allocate 0)) (7 ∷ 0 ∷ [])
    ∷ example (left_after 1_024 (near_half 0xff 64) (to_allocate 0)) (near_half 0xff 64)
    -- strings into the 8 bytes at 640: 9 letters, and 8 with their zero, are clipped and closed; 8 letters, and 7 with
    -- their zero, just fit
    ∷ example (copying (to_copy_string 640) (letters 9)) (0 ∷ 8 ∷ letters 7 ++ (0 ∷ kept 1))
    ∷ example (copying (to_copy_string 640) (letters 8 ++ (0 ∷ []))) (0 ∷ 8 ∷ letters 7 ++ (0 ∷ kept 1))
    ∷ example (copying (to_copy_string 640) (letters 8)) (0 ∷ 8 ∷ letters 8 ++ kept 1)
    ∷ example (copying (to_copy_string 640) (letters 7 ++ (0 ∷ []))) (0 ∷ 8 ∷ letters 7 ++ (0 ∷ kept 1))
    -- from the middle on, 5 bytes are left; at the last byte the zero alone; past it nothing is live
    ∷ example (copying (to_copy_string 643) (letters 6)) (0 ∷ 5 ∷ kept 3 ++ (letters 4 ++ (0 ∷ kept 1)))
    ∷ example (copying (to_copy_string 643) (letters 5)) (0 ∷ 5 ∷ kept 3 ++ (letters 5 ++ kept 1))
    ∷ example (copying (to_copy_string 647) (letters 2)) (0 ∷ 1 ∷ kept 7 ++ (0 ∷ kept 1))
    ∷ example (copying (to_copy_string 648) (letters 9)) (0 ∷ 0 ∷ kept 9)
    -- what is no string is clipped without an end
    ∷ example (copying (to_copy 640) (letters 9)) (0 ∷ 8 ∷ letters 8 ++ kept 1)
    ∷ example (copying (to_copy_padded 640 9) (letters 9)) (0 ∷ 8 ∷ letters 8 ++ kept 1)
    -- reads of a live object: to its end, part of it, and nothing, which is no part of the page
    ∷ example (shown_there only_slot_set (to_read 8_188 9)) (0 ∷ 4 ∷ 0 ∷ 8_188 ∷ 1 ∷ 2 ∷ 3 ∷ 4 ∷ [])
    ∷ example (shown_there only_slot_set (to_read 8_189 2)) (0 ∷ 2 ∷ 0 ∷ 8_189 ∷ 2 ∷ 3 ∷ [])
    ∷ example (shown_there only_slot_set (to_read 8_189 0)) (0 ∷ 0 ∷ 0 ∷ 8_189 ∷ [])
    -- more than a few bytes, and a whole object
    ∷ example (shown_there only_slot_set (to_read 8_180 11)) (0 ∷ 11 ∷ 0 ∷ 8_180 ∷ replicate 8 0x11 ++ (1 ∷ 2 ∷ 3 ∷ []))
    ∷ example (shown_there only_slot_set (to_read 7_168 1_025))
    (0 ∷ 1_024 ∷ 0 ∷ 7_168 ∷ replicate 1_020 0x11 ++ (1 ∷ 2 ∷ 3 ∷ 4 ∷ []))
    -- reads of the page: of a clear slot, of more than the page has, in a region without slots, and of no page
    ∷ example (shown_there (clear 1_024 1 1) (to_read 8_188 2)) (0 ∷ 2 ∷ 1 ∷ 0x70 ∷ 0x71 ∷ [])
    ∷ example (shown_there (clear 1_024 1 1) (to_read 8_188 4_294_967_295)) (0 ∷ 3 ∷ 1 ∷ 0x70 ∷ 0x71 ∷ 0x72 ∷ [])
    ∷ example (shown_there only_slot_set (to_read 8_192 1)) (0 ∷ 1 ∷ 1 ∷ 0x70 ∷ [])
    ∷ example (showing [] [] 1_024 (clear 1_024 1 1) (to_read 8_188 2)) (0 ∷ 0 ∷ 1 ∷ [])
    -- of a longer page
    ∷ example (shown_with (letters 9) (clear 1_024 1 1) (to_read 8_188 7)) (0 ∷ 7 ∷ 1 ∷ letters 7)
    ∷ example (shown_with (letters 9) (clear 1_024 1 1) (to_read 8_188 10)) (0 ∷ 9 ∷ 1 ∷ letters 9)
    -- refused reads, and what is no read, show the empty part of the page: past the end, on metadata a byte short or
    -- with too high a count, and where a byte is set that must be zero
    ∷ example (shown_there only_slot_set (to_read 12_288 4)) (8 ∷ 0 ∷ 1 ∷ [])
    ∷ example (shown_there (drop 1 only_slot_set) (to_read 8_188 4)) (3 ∷ 0 ∷ 1 ∷ [])
    ∷ example (shown_there (set only_slot_set 12 33) (to_read 8_188 4)) (13 ∷ 0 ∷ 1 ∷ [])
    ∷ example (shown_there only_slot_set (set (to_read 8_188 4) 12 1)) (4 ∷ 0 ∷ 1 ∷ [])
    ∷ example (shown_there only_slot_set (to_measure 8_188)) (0 ∷ 4 ∷ 1 ∷ [])
    -- requests: the last operation, none such, a count where there is none, and 15 and 17 bytes
    ∷ example (answer_to 1_024 (clear 1_024 1 1) (request_bytes 6 0 1)) (0 ∷ 0 ∷ [])
    ∷ example (answer_to 1_024 (clear 1_024 1 1) (request_bytes 7 0 0)) (4 ∷ 0 ∷ [])
    ∷ example (answer_to 1_024 (clear 1_024 1 1) (request_bytes 4 0 1)) (4 ∷ 0 ∷ [])
    ∷ example (answer_to 1_024 (clear 1_024 1 1) (drop 1 (to_measure 0))) (4 ∷ 0 ∷ [])
    ∷ example (answer_to 1_024 (clear 1_024 1 1) (to_measure 0 ++ (0 ∷ []))) (4 ∷ 0 ∷ [])
    -- openings, of metadata with every count at its highest: the shortest and the longest heap, half and twice that, no
    -- power of two, metadata a byte off, and seeds of 0
    ∷ example (answer_to_opening 1_024 94 1 1) (0 ∷ 0 ∷ [])
    ∷ example (answer_to_opening 1_048_576 32_820 1 1) (0 ∷ 0 ∷ [])
    ∷ example (answer_to_opening 512 94 1 1) (2 ∷ 0 ∷ [])
    ∷ example (answer_to_opening 2_097_152 65_588 1 1) (2 ∷ 0 ∷ [])
    ∷ example (answer_to_opening 1_536 94 1 1) (2 ∷ 0 ∷ [])
    ∷ example (answer_to_opening 1_024 93 1 1) (3 ∷ 0 ∷ [])
    ∷ example (answer_to_opening 1_024 95 0 0) (3 ∷ 0 ∷ [])
    ∷ example (answer_to_opening 1_024 94 0 1) (1 ∷ 0 ∷ [])
    ∷ example (answer_to_opening 1_024 94 1 0) (1 ∷ 0 ∷ [])
    -- seeds that freeze, each in its own half, and after the lengths; those next to them, and in the other half
    ∷ example (answer_to_opening 1_024 94 0x9068ffff 1) (1 ∷ 0 ∷ [])
    ∷ example (answer_to_opening 1_024 94 1 0x464fffff) (1 ∷ 0 ∷ [])
    ∷ example (answer_to_opening 1_024 94 1 0x8c9ffffe) (1 ∷ 0 ∷ [])
    ∷ example (answer_to_opening 1_024 94 1 0xd2effffd) (1 ∷ 0 ∷ [])
    ∷ example (answer_to_opening 1_024 93 0x9068ffff 0x464fffff) (3 ∷ 0 ∷ [])
    ∷ example (answer_to_opening 1_024 94 0x9068fffe 0x464ffffe) (0 ∷ 0 ∷ [])
    ∷ example (answer_to_opening 1_024 94 0x90690000 0x46500000) (0 ∷ 0 ∷ [])
    ∷ example (answer_to_opening 1_024 94 0x464fffff 0x9068ffff) (0 ∷ 0 ∷ [])
    ∷ example (answer_to_opening 1_024 94 0x8c9ffffe 0x8c9ffffd) (0 ∷ 0 ∷ [])
    ∷ example (answer_to_opening 1_024 94 0xd2effffd 0xd2effffe) (0 ∷ 0 ∷ [])
    -- votes: 2 and 17 replicas, blocks of 0 and 4,097 bytes; 3 and 16 replicas, blocks of 4,096 bytes
    ∷ example (voting (replicate 2 0x41) 2 1 1) (11 ∷ 0 ∷ 0 ∷ 0 ∷ 0xff ∷ [])
    ∷ example (voting (replicate 17 0x41) 17 1 1) (11 ∷ 0 ∷ 0 ∷ 0 ∷ 0xff ∷ [])
    ∷ example (voting [] 3 0 1) (11 ∷ 0 ∷ 0 ∷ 0 ∷ 0xff ∷ [])
    ∷ example (voting (replicate (3 * 4_097) 0x41) 3 4_097 4_097) (11 ∷ 0 ∷ 0 ∷ 0 ∷ replicate 4_097 0xff)
    ∷ example (voting (replicate 3 0x41) 3 1 1) (0 ∷ 7 ∷ 3 ∷ 0 ∷ 0x41 ∷ [])
    ∷ example (voting (replicate 16 0x41) 16 1 1) (0 ∷ 65_535 ∷ 16 ∷ 0 ∷ 0x41 ∷ [])
    ∷ example (voting (replicate (3 * 4_096) 0x41) 3 4_096 4_096) (0 ∷ 7 ∷ 3 ∷ 0 ∷ replicate 4_096 0x41)
    -- a buffer that is not all blocks, an output a byte too short, and one a byte longer
    ∷ example (voting (replicate 7 0x41) 3 2 2) (11 ∷ 0 ∷ 0 ∷ 0 ∷ 0xff ∷ 0xff ∷ [])
    ∷ example (voting (replicate 6 0x41) 3 2 1) (11 ∷ 0 ∷ 0 ∷ 0 ∷ 0xff ∷ [])
    ∷ example (voting (replicate 6 0x41) 3 2 3) (0 ∷ 7 ∷ 3 ∷ 0 ∷ 0x41 ∷ 0x41 ∷ 0xff ∷ [])
    -- the lowest winner: after one that lost, after two that lost, of two contents that tie, and the last but one of 16
    ∷ example (bytes_voted (0x42 ∷ 0x41 ∷ 0x41 ∷ [])) (0 ∷ 6 ∷ 2 ∷ 1 ∷ 0x41 ∷ [])
    ∷ example (bytes_voted (0x42 ∷ 0x42 ∷ 0x41 ∷ 0x41 ∷ 0x41 ∷ [])) (0 ∷ 28 ∷ 3 ∷ 2 ∷ 0x41 ∷ [])
    ∷ example (bytes_voted (0x43 ∷ 0x42 ∷ 0x41 ∷ 0x41 ∷ 0x42 ∷ [])) (0 ∷ 18 ∷ 2 ∷ 1 ∷ 0x42 ∷ [])
    ∷ example (bytes_voted (tabulate (λ r. min r 14) 0 16)) (0 ∷ 49_152 ∷ 2 ∷ 14 ∷ 14 ∷ [])
    ∷ []
