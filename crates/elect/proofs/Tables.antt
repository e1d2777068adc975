-- Arrays of sixteen that are filled with a tabulated list from the front.
use Prim.Native.Nat.{ℕ, ◌+◌, ◌≤◌, ◌<◌}
use native.Mathlib.Decide.{ℕ_discrete, dec_lt}
use native.Mathlib.Omega.{arith}
use mathlib.Core.Path.{◌≡◌, refl, sym, ◌∙◌}
use mathlib.Core.List.{List}
use mathlib.Core.Logic.{◌↔◌}
use borrow.Author.Tests.{eq-eqb, ne_eqb}
use lib.ListN.{length, get_or, set, replicate, length-set, get_or-replicate}
use lib.Seq.{get_or-set_same, get_or-set_other, ext_get_or}
use Rattle.search.specs.Tabulate.{tabulate}
use Rattle.search.proofs.Tabulate.{tabulate_at, tabulate_length}
use Rattle.elect.specs.Leader.{instead}

-- an array of sixteen, at first as old has it, of which the first n entries are those of f
pub record Filled {A : Type 0} (f old : ℕ → A) (out : List A) (n : ℕ) : Type 0 where
  pub size : length out ≡ 16
  pub front : (d : A) (j : ℕ) → j < n → get_or out j d ≡ f j
  pub rest : (d : A) (j : ℕ) → n ≤ j → j < 16 → get_or out j d ≡ old j

-- none filled yet
pub filled_none : {A : Type 0} {f : ℕ → A} {a : A} → Filled f (λ _. a) (replicate 16 a) 0
filled_none {a = a} = record { size = refl; front = λ d j l. absurd (omega arith); rest = λ d j l m. get_or-replicate 16 j a d m }

module _ {A : Type 0} {f old : ℕ → A} {out : List A} {n : ℕ} (filled : Filled f old out n) where
  -- one store more
  pub filled_more : {v : A} → n < 16 → v ≡ f n → Filled f old (set out n v) (n + 1)
  filled_more {v} h e =
      record {
        size = length-set out n v ∙ filled.size;
        front = λ d j l. elim (ℕ_discrete j n) [
          | yes q ↦ rw q (get_or-set_same out n v d (omega (arith, filled.size)) ∙ e)
          | no q ↦ get_or-set_other out n j v d q ∙ filled.front d j (omega arith)
        ];
        rest = λ d j l m. get_or-set_other out n j v d (λ q. omega arith) ∙ filled.rest d j (omega arith) m;
      }

  -- the others were right before
  pub filled_all : A → ((j : ℕ) → n ≤ j → j < 16 → old j ≡ f j) → out ≡ tabulate f 0 16
  filled_all d h =
      ext_get_or d out (tabulate f 0 16) (filled.size ∙ sym (tabulate_length f 0 16))
      (λ j l. entry j (omega (arith, filled.size)) ∙ sym (tabulate_at f d 16 j (omega (arith, filled.size))))
    where
      entry : (j : ℕ) → j < 16 → get_or out j d ≡ f j
      entry j l = elim (dec_lt j n) [
        | yes m ↦ filled.front d j m
        | no m ↦ filled.rest d j (omega arith) l ∙ h j (omega arith) l
      ]

-- where one place alone has a number, another number in its place is one store
pub replaced_set : (groups : List ℕ) (i new : ℕ) → length groups ≡ 16 → i < 16
    → ((j : ℕ) → j < 16 → (get_or groups j 0 ≡ i) ↔ (j ≡ i)) → tabulate (λ j. instead i new (get_or groups j 0)) 0 16 ≡ set groups i new
replaced_set groups i new size few own =
    ext_get_or 0 (tabulate entry 0 16) (set groups i new) (tabulate_length entry 0 16 ∙ sym (length-set groups i new ∙ size))
    (λ j l. tabulate_at entry 0 16 j (omega (arith, tabulate_length entry 0 16)) ∙ at j (omega (arith, tabulate_length entry 0 16)))
  where
    entry : ℕ → ℕ
    entry j = instead i new (get_or groups j 0)

    at : (j : ℕ) → j < 16 → instead i new (get_or groups j 0) ≡ get_or (set groups i new) j 0
    at j l = elim (ℕ_discrete (get_or groups j 0) i) [
      | yes e ↦ rw (eq-eqb (get_or groups j 0) i e, (own j l).0 e) (sym (get_or-set_same groups i new 0 (omega arith)))
      | no e ↦ rw (ne_eqb (get_or groups j 0) i e) (sym (get_or-set_other groups i j new 0 (λ q. e ((own j l).1 q))))
    ]
