-- Allocating (the paper's placing): a random slot of the smallest class that holds the size.
use Rattle.std.specs.Prelude.{ℕ, ◌/◌, List, [], ◌∷◌, leb, ltb, eqb}
use Rattle.geometry.specs.declared.Layout.{Layout}
use Rattle.geometry.specs.Layout.{classes, class_of, slots}
use Rattle.answer.specs.declared.Refusal.TheVariants.{UnsupportedSize, ClassTooSmall, ClassAtCapacity, CorruptMetadata}
use Rattle.answer.specs.Checks.{◌when◌, checked}
use Rattle.probe.specs.declared.Found.{Found}
use Rattle.probe.specs.Probe.{probe, draws}
use Rattle.metadata.specs.Metadata.{generator_of, count_of, bitmap_of}
use Rattle.rules.specs.Outcome.{Outcome, refused, allocated}

-- what the draws find in a class, and the slot taken
abbrev pub found_in : Layout → List ℕ → ℕ → Found
found_in G m c = probe (bitmap_of G c m) (slots G c) (generator_of m) 0 draws

abbrev pub taken : Layout → List ℕ → ℕ → Outcome
taken G m c = allocated c (found_in G m c).slot (found_in G m c).generator

-- a request for nothing is one of class 0; the class's count is believed, unless no slot is clear
unfoldable pub allocate : Layout → List ℕ → ℕ → Outcome
allocate G m size =
    let c : ℕ = class_of G size in
    let n : ℕ = slots G c in
    checked refused
    (UnsupportedSize when eqb c classes
    ∷ ClassTooSmall when ltb n 2
    ∷ ClassAtCapacity when leb (n / 2) (count_of c m)
    ∷ CorruptMetadata when leb n (found_in G m c).slot
    ∷ [])
    (taken G m c)
