-- Requests from any bytes (the paper's tickets). Sixteen bytes are four words: the operation, its size or offset, its
-- count, and zero; an operation is below 256, so its word is its byte with three zero bytes.
use Rattle.std.specs.Prelude.{ℕ, List, [], ◌∷◌, ◌++◌, map, Bool, ◌&&◌, ◌||◌, cond, length, get_or, eqb, Option, Some, None}
use Rattle.words.specs.Word.{bytes_of, word_at}
use Rattle.request.specs.declared.Request.{Request}
use Rattle.request.specs.declared.Request.TheVariants.{Allocate, Free, Remaining, Copy, Read}
use Rattle.request.specs.declared.Kind.TheVariants.{Bytes, String, Padded}

-- in the order of their numbers; the paper's place, free, measure, plain copy, text copy, counted copy and read
abbrev pub operations : ℕ → ℕ → List Request
operations argument count =
    Allocate argument
    ∷ Free argument
    ∷ Remaining argument
    ∷ Copy argument Bytes
    ∷ Copy argument String
    ∷ Copy argument (Padded count)
    ∷ Read argument count
    ∷ []

-- a request that is whole, or none
abbrev pub Parsed : Type 0
Parsed = Option Request

abbrev pub operation : ℕ → ℕ → ℕ → Parsed
operation code argument count = get_or (map Some (operations argument count)) code None

-- a padded copy and a read have a count
abbrev pub has_count : ℕ → Bool
has_count code = eqb code 5 || eqb code 6

abbrev pub count_allowed : ℕ → ℕ → Bool
count_allowed code count = eqb count 0 || has_count code

-- four words
abbrev pub request_size : ℕ
request_size = 16

unfoldable pub parse : List ℕ → Parsed
parse b =
    let code : ℕ = word_at b 0 in
    let count : ℕ = word_at b 8 in
    cond (eqb (length b) request_size && eqb (word_at b 12) 0 && count_allowed code count)
    (operation code (word_at b 4) count)
    None

-- the bytes of a request
abbrev pub request_bytes : ℕ → ℕ → ℕ → List ℕ
request_bytes code argument count = bytes_of code ++ (bytes_of argument ++ (bytes_of count ++ bytes_of 0))
