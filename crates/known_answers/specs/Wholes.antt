-- Worked examples of whole votes, as rows of a table.
use Rattle.std.specs.Prelude.{ℕ, ◌*◌, cond, List, [], ◌∷◌, ◌++◌, length, replicate, eqb}
use Rattle.search.specs.Tabulate.{tabulate}
use Rattle.vote.specs.declared.Tally.{Tally}
use Rattle.vote.specs.Decide.{longest, invalid}
use Rattle.whole.specs.Whole.{longest_output, Voted, whole}
use Rattle.known_answers.specs.Calls.{Row, example}

-- ---- outputs of a letter a block

abbrev a : ℕ
a = 0x61

abbrev b : ℕ
b = 0x62

abbrev c : ℕ
c = 0x63

abbrev x : ℕ
x = 0x78

-- the letters of an output, 4,096 times each, but the last of them `last` times
unfoldable pub spelled : ℕ → List ℕ → List ℕ
spelled last [] = []
spelled last (letter ∷ []) = replicate last letter
spelled last (letter ∷ next ∷ more) = replicate longest letter ++ spelled last (next ∷ more)

unfoldable pub all_spelled : ℕ → List (List ℕ) → List ℕ
all_spelled last [] = []
all_spelled last (output ∷ more) = spelled last output ++ all_spelled last more

-- a whole vote of k replicas: the answer's number, mask, value and replica, and then the output, FF hex throughout before
unfoldable pub voting_whole : List ℕ → ℕ → ℕ → ℕ → List ℕ
voting_whole outputs k len room =
    let v : Voted = whole outputs k len (replicate room 0xff) in
    let t : Tally = v.answer in
    t.number ∷ t.mask ∷ t.value ∷ t.replica ∷ v.output

-- on outputs of two blocks, the second of one byte, with room for two bytes more
unfoldable pub two_blocks : List (List ℕ) → List ℕ
two_blocks outputs = voting_whole (all_spelled 1 outputs) (length outputs) 4_097 4_099

-- on outputs of one byte
unfoldable pub one_byte : List ℕ → List ℕ
one_byte outputs = voting_whole outputs (length outputs) 1 1

-- 1 where the numbers are refused with 15
unfoldable pub refused : ℕ → ℕ → ℕ → ℕ → List ℕ
refused lent k len room = cond (invalid longest_output lent k len room) 1 0 ∷ []

-- ---- the table

unfoldable pub wholes : List Row
wholes =
    -- all left; two left, of whom a third, out after block 0, has what they have in the last block, which is one byte
    example (two_blocks ((a ∷ b ∷ []) ∷ (a ∷ b ∷ []) ∷ (a ∷ b ∷ []) ∷ []))
    (0 ∷ 7 ∷ 3 ∷ 0 ∷ spelled 1 (a ∷ b ∷ []) ++ (0xff ∷ 0xff ∷ []))
    ∷ example (two_blocks ((c ∷ b ∷ []) ∷ (a ∷ b ∷ []) ∷ (a ∷ b ∷ []) ∷ []))
    (0 ∷ 6 ∷ 2 ∷ 1 ∷ spelled 1 (a ∷ b ∷ []) ++ (0xff ∷ 0xff ∷ []))
    -- out in the last block alone, by its only byte
    ∷ example (two_blocks ((a ∷ b ∷ []) ∷ (a ∷ c ∷ []) ∷ (a ∷ b ∷ []) ∷ []))
    (0 ∷ 5 ∷ 2 ∷ 0 ∷ spelled 1 (a ∷ b ∷ []) ++ (0xff ∷ 0xff ∷ []))
    -- no two alike in block 0, though they are in block 1; and in block 1, where who is out has what another has
    ∷ example (two_blocks ((a ∷ x ∷ []) ∷ (b ∷ x ∷ []) ∷ (c ∷ x ∷ []) ∷ [])) (12 ∷ 0 ∷ 0 ∷ 0 ∷ replicate 4_099 0xff)
    ∷ example (two_blocks ((a ∷ a ∷ []) ∷ (a ∷ b ∷ []) ∷ (b ∷ a ∷ []) ∷ []))
    (12 ∷ 0 ∷ 1 ∷ 0 ∷ replicate longest a ++ replicate 3 0xff)
    -- a tie goes to the lowest of those tied; two share an output and yet none wins: two others begin alike, and differ
    ∷ example (two_blocks ((a ∷ c ∷ []) ∷ (a ∷ b ∷ []) ∷ (a ∷ b ∷ []) ∷ (a ∷ c ∷ []) ∷ []))
    (0 ∷ 9 ∷ 2 ∷ 0 ∷ spelled 1 (a ∷ c ∷ []) ++ (0xff ∷ 0xff ∷ []))
    ∷ example (two_blocks ((c ∷ a ∷ []) ∷ (c ∷ b ∷ []) ∷ (x ∷ a ∷ []) ∷ (x ∷ a ∷ []) ∷ []))
    (12 ∷ 0 ∷ 1 ∷ 0 ∷ replicate longest c ++ replicate 3 0xff)
    -- one block: of one byte, by 3 and by 16 replicas; of 4,096 bytes
    ∷ example (one_byte (a ∷ b ∷ a ∷ [])) (0 ∷ 5 ∷ 2 ∷ 0 ∷ a ∷ [])
    ∷ example (one_byte (a ∷ b ∷ c ∷ [])) (12 ∷ 0 ∷ 0 ∷ 0 ∷ 0xff ∷ [])
    ∷ example (one_byte (tabulate (λ r. cond (eqb r 3) a (cond (eqb r 15) a r)) 0 16)) (0 ∷ 32_776 ∷ 2 ∷ 3 ∷ a ∷ [])
    ∷ example (voting_whole (replicate (3 * longest) a) 3 longest longest) (0 ∷ 7 ∷ 3 ∷ 0 ∷ replicate longest a)
    -- 15: 2 and 17 replicas, outputs of no byte; a byte too many, one too few, an output that is too short
    ∷ example (one_byte (a ∷ a ∷ [])) (15 ∷ 0 ∷ 0 ∷ 0 ∷ 0xff ∷ [])
    ∷ example (one_byte (replicate 17 a)) (15 ∷ 0 ∷ 0 ∷ 0 ∷ 0xff ∷ [])
    ∷ example (voting_whole [] 3 0 1) (15 ∷ 0 ∷ 0 ∷ 0 ∷ 0xff ∷ [])
    ∷ example (voting_whole (replicate 7 a) 3 2 2) (15 ∷ 0 ∷ 0 ∷ 0 ∷ 0xff ∷ 0xff ∷ [])
    ∷ example (voting_whole (replicate 5 a) 3 2 2) (15 ∷ 0 ∷ 0 ∷ 0 ∷ 0xff ∷ 0xff ∷ [])
    ∷ example (voting_whole (replicate 6 a) 3 2 1) (15 ∷ 0 ∷ 0 ∷ 0 ∷ 0xff ∷ [])
    -- before 12
    ∷ example (voting_whole (a ∷ b ∷ c ∷ []) 3 1 0) (15 ∷ 0 ∷ 0 ∷ 0 ∷ [])
    -- outputs of 1,048,576 bytes are allowed, and of one more are not
    ∷ example (refused (3 * 1_048_576) 3 1_048_576 1_048_576) (0 ∷ [])
    ∷ example (refused (3 * 1_048_577) 3 1_048_577 1_048_577) (1 ∷ [])
    ∷ example (refused (16 * 1_048_576) 16 1_048_576 1_048_576) (0 ∷ [])
    ∷ []
