-- Answers as the C interface gives them.
use Rattle.std.specs.Prelude.{ℕ, cond, eqb}
use Rattle.answer.specs.declared.Reply.{Reply}
use Rattle.geometry.specs.Layout.{region_of, layout_of, metadata_length}
use Rattle.view.specs.declared.Place.{Place}
use Rattle.view.specs.declared.Place.TheVariants.{Heap, Page}
use Rattle.rules.specs.Call.{Call}
use Rattle.vote.specs.declared.Tally.{Tally}
use Rattle.capi.specs.declared.PohelduAnswer.{PohelduAnswer}
use Rattle.capi.specs.declared.PohelduVerdict.{PohelduVerdict}
use Rattle.capi.specs.declared.PohelduPart.{PohelduPart}

abbrev pub reply_in : PohelduAnswer → Reply
reply_in a = record { number = a.number; value = a.value }

abbrev pub tally_in : PohelduVerdict → Tally
tally_in v = record { number = v.number; mask = v.mask; value = v.value; replica = v.replica }

-- 1 for the page; and where a place lies in the heap or in the page
abbrev pub of_page_flag : Place → ℕ
of_page_flag (Heap offset) = 0
of_page_flag Page = 1

abbrev pub place_start : Place → ℕ
place_start (Heap offset) = offset
place_start Page = 0

-- a read's answer, and where the bytes lie that it shows
abbrev pub read_part : Call → PohelduPart
read_part c =
    record {
      number = c.answer.number;
      value = c.answer.value;
      of_page = of_page_flag c.view.place;
      start = place_start c.view.place;
    }

-- the metadata's length for a heap's length; 0 where no heap has it
abbrev pub metadata_for : ℕ → ℕ
metadata_for n = cond (eqb (region_of n) 0) 0 (metadata_length (layout_of n))

-- the number of the interface that an object must be compiled against
abbrev pub interface : ℕ
interface = 1
