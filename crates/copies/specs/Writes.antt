-- What copies write in a given room.
use Rattle.std.specs.Prelude.{ℕ, suc, ◌-◌, List, ◌++◌, cond, length, take, set, replicate, leb}
use Rattle.scan.specs.Bytes.{index_of}
use Rattle.request.specs.declared.Kind.{Kind}
use Rattle.request.specs.declared.Kind.TheVariants.{Bytes, String, Padded}

-- the string in a source: through its first zero byte, or to its end
abbrev pub string_in : List ℕ → List ℕ
string_in source = take (suc (index_of 0 source)) source

-- a text in a given room: as it is where it fits; of a longer one what fits, with zero for the last byte
abbrev pub clipped : ℕ → List ℕ → List ℕ
clipped room text = cond (leb (length text) room) text (set (take room text) (room - 1) 0)

-- what a copy of each kind writes in a given room, from the first byte on (the paper's plain, text and counted copy):
-- the source; its string, closed where it is clipped; the source before its first zero byte or end, and then zeros,
-- count bytes in all
abbrev pub writes : Kind → List ℕ → ℕ → List ℕ
writes Bytes source room = take room source
writes String source room = clipped room (string_in source)
writes (Padded count) source room = take room (take count (take (index_of 0 source) source ++ replicate count 0))
