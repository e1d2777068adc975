-- When two runs pair off.
use Rattle.std.specs.Prelude.{ℕ, ◌≡◌, List, [], ◌∷◌, Some}
use Rattle.request.specs.declared.Request.{Request}
use Rattle.request.specs.declared.Request.TheVariants.{Allocate, Free, Remaining, Copy, Read}
use Rattle.geometry.specs.declared.Layout.{Layout}
use Rattle.geometry.specs.Layout.{class_of}
use Rattle.runs.specs.Run.{Event}

abbrev pub Served : Event → Type 0
Served a = a.answer.number ≡ 0

-- a measuring, a copy or a read
abbrev pub Measures : Request → Type 0
Measures (Allocate size) = ⊥
Measures (Free offset) = ⊥
Measures (Remaining offset) = Unit {0}
Measures (Copy offset kind) = Unit {0}
Measures (Read offset count) = Unit {0}

-- two served allocations in one size class, two served frees at one offset, two served measurings, copies or reads, in
-- any mix, of one value, or two refusals with one number
pub data Pair (G : Layout) (a b : Event) : Type 0 where
  allocations : (s t : ℕ) → a.asked ≡ Some (Allocate s) → b.asked ≡ Some (Allocate t) → class_of G s ≡ class_of G t
      → Served a → Served b → Pair G a b
  frees : (offset : ℕ) → a.asked ≡ Some (Free offset) → b.asked ≡ Some (Free offset) → Served a → Served b
      → Pair G a b
  measurings : (q r : Request) → a.asked ≡ Some q → b.asked ≡ Some r → Measures q → Measures r → Served a → Served b
      → a.answer.value ≡ b.answer.value → Pair G a b
  refusals : (Served a → ⊥) → a.answer.number ≡ b.answer.number → Pair G a b

-- in order, each with each
abbrev pub PairOff : Layout → List Event → List Event → Type 0
PairOff G [] [] = Unit {0}
PairOff G [] (b ∷ others) = ⊥
PairOff G (a ∷ rest) [] = ⊥
PairOff G (a ∷ rest) (b ∷ others) = Pair G a b × PairOff G rest others
