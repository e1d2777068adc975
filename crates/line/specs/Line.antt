-- What a line of text asks for.
use Rattle.std.specs.Prelude.{ℕ, cond, Option, Some, None, Result, Ok, Err, List, [], ◌∷◌, length, take, ltb, eqb}
use Rattle.std.specs.Option.{ok_or}
use Rattle.std.specs.List.{position}
use Rattle.alike.specs.Alike.{alike}
use Rattle.request.specs.Parse.{has_count, request_bytes}
use Rattle.scan.specs.Bytes.{index_of}
use Rattle.line.specs.Text.{bytes, next_word, word_bytes, trimmed}
use Rattle.line.specs.Number.{number}
use Rattle.line.specs.declared.Word.{Word}
use Rattle.line.specs.declared.Asked.{Asked}
use Rattle.line.specs.declared.BadLine.{BadLine}
use Rattle.line.specs.declared.BadLine.TheVariants.{Operation, Number, TrailingText, TooLong}

-- the operations in the order of their numbers
abbrev pub names : List (List ℕ)
names =
    bytes "place"
    ∷ bytes "free"
    ∷ bytes "measure"
    ∷ bytes "copy"
    ∷ bytes "text"
    ∷ bytes "counted"
    ∷ bytes "read"
    ∷ []

-- the operation that a word names, if it names one
unfoldable pub operation_of : List ℕ → Option ℕ
operation_of name = position (alike name) names

-- what comes of a value, or the error in its place
abbrev pub and_then : {T U E : Type 0} → Result T E → (T → Result U E) → Result U E
and_then (Ok x) f = f x
and_then (Err e) f = Err e

-- the number that a word of a text spells
abbrev pub number_at : List ℕ → Word → Result ℕ BadLine
number_at text w = ok_or (number (word_bytes text w)) (Number w)

-- a request, where no word is left from place a on
unfoldable pub request : List ℕ → ℕ → ℕ → ℕ → ℕ → Result Asked BadLine
request text a operation argument count =
    let w : Word = next_word text a in
    cond (eqb w.start (length text))
    (Ok (record { operation = operation; argument = argument; count = count }))
    (Err (TrailingText w))

-- the second number, from place a on
unfoldable pub counted : List ℕ → ℕ → ℕ → ℕ → Result Asked BadLine
counted text a operation argument =
    let w : Word = next_word text a in
    and_then (number_at text w) (λ count. request text w.end operation argument count)

-- the numbers from place a on
unfoldable pub operands : List ℕ → ℕ → ℕ → Result Asked BadLine
operands text a operation =
    let w : Word = next_word text a in
    and_then (number_at text w)
    (λ argument. cond (has_count operation)
    (counted text w.end operation argument)
    (request text w.end operation argument 0))

-- what a line asks for, which may be nothing, or what is wrong with it
abbrev pub Read : Type 0
Read = Result (Option Asked) BadLine

-- a text without a comment: nothing, or an operation and its numbers
unfoldable pub statement : List ℕ → Read
statement text =
    let w : Word = next_word text 0 in
    cond (eqb w.start (length text))
    (Ok None)
    (and_then (ok_or (operation_of (word_bytes text w)) (Operation w))
    (λ operation. and_then (operands text w.end operation) (λ asked. Ok (Some asked))))

abbrev pub hash : ℕ
hash = 35

-- how many bytes a line may have, its end not counted
abbrev pub longest_line : ℕ
longest_line = 255

-- a line, of which a comment is no part
unfoldable pub read_text : List ℕ → Read
read_text line = cond (ltb longest_line (length line)) (Err TooLong) (statement (take (index_of hash line) line))

-- a line that ends in a line feed, or in a carriage return and a line feed; the line feed is taken off
abbrev pub read_line : List ℕ → Read
read_line line = read_text (trimmed line)

-- the bytes of the request that a line asks for; nothing where it asks for none
unfoldable pub request_of : Read → List ℕ
request_of (Ok (Some asked)) = request_bytes asked.operation asked.argument asked.count
request_of (Ok None) = []
request_of (Err bad) = []
