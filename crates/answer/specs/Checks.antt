-- Checks in their order: the first that fails refuses.
use Rattle.std.specs.Prelude.{Bool, cond, List, [], ◌∷◌}
use Rattle.answer.specs.declared.Refusal.{Refusal}

-- a row of the table of refusals: the refusal, and whether it is due
pub record Check : Type 0 where
  pub refusal : Refusal
  pub due : Bool

infix 70 ◌when◌
abbrev pub ◌when◌ : Refusal → Bool → Check
r when t = record { refusal = r; due = t }

-- what comes of the first refusal that is due, or of none
abbrev pub checked : {A : Type 0} → (Refusal → A) → List Check → A → A
checked refused [] served = served
checked refused (c ∷ more) served = cond c.due (refused c.refusal) (checked refused more served)
