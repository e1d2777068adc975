-- The usual slot sizes, and the class of a size among them.
use Rattle.std.specs.Prelude.{ℕ, ◌*◌, ◌^◌, true, false, leb, ltb}
use Rattle.search.specs.First.{first}

-- size classes
abbrev pub classes : ℕ
classes = 12

-- the usual bytes of a slot; 0 past the last class
abbrev pub usual_size : ℕ → ℕ
usual_size c = elim (ltb c classes) [ true ↦ 8 * 2 ^ c | false ↦ 0 ]

-- the bytes of a slot of the last class, the longest
abbrev pub longest_slot : ℕ
longest_slot = 16_384

-- the class of a size among slot sizes: the first whose slots hold it; `classes` where none does
abbrev pub class_among : (ℕ → ℕ) → ℕ → ℕ
class_among slot_size size = first (λ c. leb size (slot_size c)) 0 classes

abbrev pub usual_class : ℕ → ℕ
usual_class size = class_among usual_size size
