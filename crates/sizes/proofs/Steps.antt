-- The class of a size by steps of eight bytes: what the table holds, and that a size rounded up keeps its class.
use Prim.Native.Nat.{ℕ, ◌+◌, ◌*◌, ◌/◌, ◌≤◌, ◌<◌}
use mathlib.Core.Path.{◌≡◌, refl, sym, ap, fun_ext, ◌∙◌}
use mathlib.Core.Bool.{Bool, true}
use mathlib.Core.List.{List}
use native.Mathlib.Decide.{dec_le, dec_lt}
use native.Mathlib.Omega.{arith}
use lib.ListN.{get_or}
use borrow.Author.Tests.{le-leb, lt-leb}
use Rattle.search.specs.First.{first}
use Rattle.search.specs.Tabulate.{tabulate}
use Rattle.search.proofs.First.{first_found}
use Rattle.search.proofs.Tabulate.{tabulate_at}
use Rattle.sizes.specs.Sizes.{classes, usual_size, usual_class}
use Rattle.sizes.proofs.Sizes.{holds, usual_size_of, usual_size_past}

-- an entry of the table is the class of its steps
pub entry_at : {table : List ℕ} (step : ℕ) → table ≡ tabulate (λ i. usual_class (8 * (i + 1))) 0 2048 → step < 2048
    → get_or table step 0 ≡ usual_class (8 * (step + 1))
entry_at step e h = rw e (tabulate_at (λ i. usual_class (8 * (i + 1))) 0 2048 step h)

-- slots are whole steps
whole_steps : (c : ℕ) → usual_size c ≡ 8 * (usual_size c / 8)
whole_steps c = elim (dec_lt c classes) [
  | yes h ↦ rw (usual_size_of h) (omega arith)
  | no h ↦ rw (usual_size_past {c = c} (omega arith)) refl
]

-- so they hold a size just where they hold it rounded up to steps, and its class stays
module _ (size step : ℕ) (below : 8 * step < size) (within : size ≤ 8 * (step + 1)) where
  held : (c : ℕ) → holds (8 * (step + 1)) c ≡ holds size c
  held c = elim (dec_le size slot) [
    | yes h ↦ le-leb (8 * (step + 1)) slot (omega (arith, whole_steps c)) ∙ sym (le-leb size slot h)
    | no h ↦ lt-leb (8 * (step + 1)) slot (omega arith) ∙ sym (lt-leb size slot (omega arith))
  ]
    where
      slot : ℕ
      slot = usual_size c

  pub class_stepped : {r : ℕ} → r ≡ usual_class (8 * (step + 1)) → r ≡ usual_class size
  class_stepped e = e ∙ ap (λ (test : ℕ → Bool). first test 0 classes) (fun_ext held)

-- nothing goes to the first class
pub class_nothing : {size : ℕ} → size ≡ 0 → 0 ≡ usual_class size
class_nothing {size} e =
    let held : holds size 0 ≡ true = le-leb size (usual_size 0) (omega arith) in
    sym (first_found (holds size) {n = classes} (omega arith) held)
