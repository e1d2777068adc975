-- The tables hold: a test, computed over all rows of each, and one law that turns it into the equation of each row.
use Prim.Native.Nat.{ℕ, zero, suc, ◌<◌}
use mathlib.Core.Path.{◌≡◌, refl}
use mathlib.Core.Bool.{Bool, true, false, false≢true, ◌&&◌}
use mathlib.Core.List.{List, [], ◌∷◌}
use native.Mathlib.Nat.{not-suc-le-zero, le_of_suc-le-suc}
use lib.ListN.{length, get_or}
use Rattle.scan.specs.Bytes.{index_of, index_after}
use Rattle.search.specs.First.{first}
use Rattle.search.specs.Those.{those}
use Rattle.mwc.specs.Draw.{is_one_of}
use Rattle.geometry.specs.Layout.{slot_size, bitmap_at}
use Rattle.bitmap.specs.Bitmap.{put_byte, next_clear}
use Rattle.request.specs.Parse.{parse}
use Rattle.judge.specs.Judge.{lengths, admit}
use Rattle.probe.specs.Probe.{probe}
use Rattle.rules.specs.Allocate.{allocate}
use Rattle.rules.specs.Object.{free, space, remaining, copy}
use Rattle.rules.specs.Read.{read}
use Rattle.rules.specs.Call.{serving, opening}
use Rattle.rules.specs.Inspect.{inspection}
use Rattle.alike.specs.Alike.{alike}
use Rattle.search.specs.Tabulate.{tabulate}
use Rattle.elect.specs.Leader.{digits, leader}
use Rattle.vote.specs.Decide.{count, decide}
use Rattle.whole.specs.Whole.{through, whole}
use Rattle.alike.proofs.Equal.{alike_equal}
use Rattle.known_answers.specs.Calls.{Row, example, numbers, answer_to_opening, clear, answer_to, left_after, place_of, showing, voting}
use Rattle.known_answers.specs.Calls.{inspecting}
use Rattle.known_answers.specs.Table.{table, start, one_object, copying, bytes_voted}
use Rattle.known_answers.specs.Further.{further, last_set, first_set, at_capacity, after_seven, letters, kept}
use Rattle.known_answers.specs.Further.{near_half, class_five, only_slot_set, counting, shown_with, shown_there, each_above}
use Rattle.known_answers.specs.Canaries.{canaries, opened_with, newly, over_uneven, part, overrun, freeing, new_hits}
use Rattle.known_answers.specs.Wholes.{wholes, spelled, all_spelled, voting_whole, two_blocks, one_byte, refused}
use Rattle.known_answers.specs.Canaries.{none_clear, few_clear, later_clear, changed, two_hit}

-- the two sides of each row are the same numbers
all_alike : List Row → Bool
all_alike [] = true
all_alike (r ∷ rows) = alike r.computed r.expected && all_alike rows

both : (a b : Bool) → a && b ≡ true → (a ≡ true) × (b ≡ true)
both true b e = (refl, e)
both false b e = absurd (false≢true e)

abbrev pub nothing : Row
nothing = record { computed = []; expected = [] }

-- each row of a table is right
abbrev pub Right : List Row → Type 0
Right rows = (i : ℕ) → i < length rows → (get_or rows i nothing).computed ≡ (get_or rows i nothing).expected

-- the test at a whole table gives the equation of each row
each : (rows : List Row) → all_alike rows ≡ true → Right rows
unfolding all_alike
each [] e i h = absurd (not-suc-le-zero h)
each (r ∷ rows) e zero h = alike_equal r.computed r.expected (both (alike r.computed r.expected) (all_alike rows) e).0
each (r ∷ rows) e (suc i) h = each rows (both (alike r.computed r.expected) (all_alike rows) e).1 i (le_of_suc-le-suc h)

computes : all_alike table ≡ true
unfolding all_alike table start answer_to left_after one_object numbers copying bytes_voted voting example index_of index_after first
    is_one_of slot_size bitmap_at put_byte next_clear parse lengths admit probe allocate free space remaining copy serving opening
    alike tabulate digits leader count decide
computes = refl

further_computes : all_alike further ≡ true
unfolding all_alike further last_set first_set at_capacity after_seven letters kept near_half class_five only_slot_set counting
    shown_with shown_there each_above answer_to_opening clear answer_to left_after start one_object copying bytes_voted place_of
    showing numbers voting example index_of index_after first is_one_of slot_size bitmap_at put_byte next_clear parse lengths
    admit probe allocate free space remaining copy read serving opening alike tabulate digits leader count decide
further_computes = refl

canaries_compute : all_alike canaries ≡ true
unfolding all_alike canaries opened_with newly over_uneven part overrun freeing new_hits none_clear few_clear later_clear changed
    two_hit inspecting numbers example first those is_one_of slot_size bitmap_at put_byte parse lengths admit probe allocate free
    serving opening inspection alike tabulate
canaries_compute = refl

wholes_compute : all_alike wholes ≡ true
unfolding all_alike wholes spelled all_spelled voting_whole two_blocks one_byte refused example first alike tabulate digits leader
    count through whole
wholes_compute = refl

-- each of the twelve worked examples holds of the definitions
pub worked_examples : Right table
worked_examples = each table computes

-- and each of the further ones
pub further_examples : Right further
further_examples = each further further_computes

-- and each of those of canaries
pub canary_examples : Right canaries
canary_examples = each canaries canaries_compute

-- and each of those of whole votes
pub whole_examples : Right wholes
whole_examples = each wholes wholes_compute
