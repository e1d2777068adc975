-- What benchrun opens with, and how much it reads at a time.
use Rattle.std.specs.Prelude.{ℕ, ◌+◌, ◌*◌, ◌/◌, ◌^◌, ◌<◌, ◌≤◌, List, [], ◌∷◌, length}
use Rattle.words.specs.Word.{word_of}
use Rattle.geometry.specs.declared.Layout.{Layout}
use Rattle.geometry.specs.Layout.{heap_length, metadata_length}
use Rattle.request.specs.Parse.{request_size}
use Rattle.rules.specs.Open.{Setup, setup}
use Rattle.replay.specs.Line.{line_room}

-- regions of 4,096 bytes, and what they make of heap and metadata
abbrev pub layout : Layout
layout = record { region = 4096 }

abbrev pub heap_bytes : ℕ
heap_bytes = heap_length layout

abbrev pub metadata_bytes : ℕ
metadata_bytes = metadata_length layout

-- z = 1, w = 1, and a pattern of four zero bytes
abbrev pub given : Setup
given = setup 1 1 (word_of (0 ∷ 0 ∷ 0 ∷ 0 ∷ []))

-- the number of the first line
abbrev pub first_number : ℕ
first_number = 1

-- room for the bytes that are read and for those kept before them, and how many requests these are
abbrev pub input_room : ℕ
input_room = 16384

abbrev pub most_requests : ℕ
most_requests = input_room / request_size

-- what serving may rely on: `end` bytes of an input are there, and there is room for their lines and for the numbers of
-- these
pub record Room (input out : List ℕ) (end number : ℕ) : Type 0 where
  pub held : end ≤ length input
  pub few : length input ≤ input_room
  pub lines : most_requests * line_room ≤ length out
  pub numbers : number + most_requests < 2 ^ 64
