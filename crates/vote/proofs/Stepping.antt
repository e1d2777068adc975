-- Whether a step's replicas, voters, bytes and room are there, as the code asks it.
use Prim.Native.Nat.{ℕ, ◌+◌, ◌-◌, ◌*◌, ◌/◌, ◌^◌, ◌≤◌, ◌<◌}
use native.Mathlib.Nat.{div-lt_iff_lt-mul, mul_comm}
use native.Mathlib.Omega.{arith}
use mathlib.Core.Path.{◌≡◌, refl}
use mathlib.Core.Bool.{Bool, true, false, not, ◌||◌, or-true, or-false}
use lib.Dec.{ltb, eqb}
use lib.Pow.{pow_pos}
use borrow.Author.Tests.{ltb-true, ltb-false, lt-ltb, eqb-true, eq-eqb}
use Rattle.alike.proofs.Equal.{same_truth}
use Rattle.vote.specs.declared.Places.{Places}
use Rattle.elect.specs.Leader.{most}
use Rattle.vote.specs.Decide.{misplaced}
use Rattle.vote.proofs.Comparing.{same_ltb}

-- no bit past the first k is set
pub voters_past : (still k : ℕ) → eqb (still / 2 ^ k) 0 ≡ ltb still (2 ^ k)
voters_past still k =
    let same = div-lt_iff_lt-mul {k = 2 ^ k} {x = still} {y = 1} (pow_pos k) in
    same_truth _ _
    (λ h. let none : still / 2 ^ k ≡ 0 = eqb-true _ 0 h in lt-ltb still (2 ^ k) (omega (arith, same.0 (omega arith))))
    (λ h. let low : still < 2 ^ k = ltb-true _ _ h in eq-eqb (still / 2 ^ k) 0 (omega (arith, same.1 (omega arith))))

module _ (lent still : ℕ) (p : Places) (room : ℕ) where
  -- a part that ends past its output, and outputs that are not all lent
  pub part_past : p.at ≤ p.apart → ltb (p.apart - p.at) p.len ≡ ltb p.apart (p.at + p.len)
  part_past h = same_ltb (p.apart - p.at) p.len p.apart (p.at + p.len) (λ l. omega arith) (λ l. omega arith)

  pub lent_past : 0 < p.replicas → ltb (lent / p.replicas) p.apart ≡ ltb lent (p.replicas * p.apart)
  lent_past h =
      let same = div-lt_iff_lt-mul {k = p.replicas} {x = lent} {y = p.apart} h in
      rw mul_comm (same_ltb _ _ _ _ same.0 same.1)

  -- what the code asks, which adds and multiplies nothing
  abbrev pub asked : Bool
  asked =
      ltb p.replicas 1
      || ltb most p.replicas
      || not (eqb (still / 2 ^ p.replicas) 0)
      || ltb p.apart p.at
      || ltb (p.apart - p.at) p.len
      || ltb (lent / p.replicas) p.apart
      || ltb room p.len

  pub asked_misplaced : asked ≡ misplaced lent still p room
  asked_misplaced = go (ltb p.replicas 1) refl (ltb p.apart p.at) refl
    where
      go : (s : Bool) → ltb p.replicas 1 ≡ s → (t : Bool) → ltb p.apart p.at ≡ t → asked ≡ misplaced lent still p room
      go true e t f = rw e
      go false e true f =
          let past : p.apart < p.at = ltb-true _ _ f in
          rw (f, lt-ltb p.apart (p.at + p.len) (omega arith)) (simp or-true)
      go false e false f =
          rw (f, part_past (ltb-false _ _ f), lent_past (ltb-false _ _ e), voters_past still p.replicas) (simp or-false)
