-- What the header of a case says.
use Rattle.std.specs.Prelude.{ℕ, ◌*◌, min, List}
use Rattle.words.specs.Word.{word_at}
use Rattle.request.specs.Parse.{request_size}
use Rattle.geometry.specs.Layout.{layout_of, metadata_length}
use Rattle.conformance.specs.declared.Case.{Case}

-- room for the bytes of a heap, of its metadata and of a source, and for requests
abbrev pub heap_room : ℕ
heap_room = 98304

abbrev pub metadata_room : ℕ
metadata_room = 4096

abbrev pub source_room : ℕ
source_room = 65536

abbrev pub requests_room : ℕ
requests_room = 1024

-- the lengths are cut to what there is room for
abbrev pub case_of : List ℕ → Case
case_of header =
    let heap : ℕ = min (word_at header 0) heap_room in
    record {
      heap = heap;
      metadata = min (metadata_length (layout_of heap)) metadata_room;
      z = word_at header 4;
      w = word_at header 8;
      canary = word_at header 12;
      source = min (word_at header 16) source_room;
      requests = request_size * min (word_at header 20) requests_room;
      replicas = word_at header 24;
      block = word_at header 28;
    }
