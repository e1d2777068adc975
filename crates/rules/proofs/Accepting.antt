-- Which sizes an allocation accepts: nothing as a byte, and all up to the longest slot's; refusal 5 is for the rest.
use Prim.Native.Nat.{ℕ, ◌<◌}
use mathlib.Core.Path.{◌≡◌, refl, ap}
use mathlib.Core.Bool.{Bool, true, false, cond}
use mathlib.Core.List.{List}
use native.Mathlib.Omega.{arith}
use lib.Dec.{eqb}
use borrow.Author.Tests.{eq-eqb, eqb-true}
use Rattle.search.specs.First.{first}
use Rattle.geometry.specs.declared.Layout.{Layout}
use Rattle.geometry.specs.Layout.{classes, class_of, slot_size, longest_slot}
use Rattle.geometry.proofs.Geometry.{class_none}
use Rattle.answer.specs.declared.Refusal.TheVariants.{UnsupportedSize, ClassTooSmall, ClassAtCapacity, CorruptMetadata}
use Rattle.mwc.specs.declared.Generator.{Generator}
use Rattle.rules.specs.Outcome.{Outcome, refused, allocated, reply}
use Rattle.rules.specs.Allocate.{allocate}

-- what an allocation of a size that some class holds can come to; which tests lead to it plays no part
data Held : Outcome → Type 0 where
  small : Held (refused ClassTooSmall)
  full : Held (refused ClassAtCapacity)
  none : Held (refused CorruptMetadata)
  served : (c i : ℕ) (g : Generator) → Held (allocated c i g)

-- whatever a test says, and where it says no
tested : (t : Bool) {o o' : Outcome} → Held o → Held o' → Held (cond t o o')
tested true h k = h
tested false h k = k

past : (t : Bool) (o : Outcome) {o' : Outcome} → t ≡ false → Held o' → Held (cond t o o')
past t o e h = rw e h

number : Layout → Outcome → ℕ
number G o = (reply G o).number

-- that is never refused as unsupported
held_other : (G : Layout) {o : Outcome} → Held o → o ≡ refused UnsupportedSize → ⊥
unfolding number
held_other G small e = omega (arith, ap (number G) e)
held_other G full e = omega (arith, ap (number G) e)
held_other G none e = omega (arith, ap (number G) e)
held_other G (served c i g) e = omega (arith, ap (number G) e)

module _ (G : Layout) (m : List ℕ) where
  -- a request for nothing comes to what one for a byte comes to
  pub nothing_as_a_byte : allocate G m 0 ≡ allocate G m 1
  unfolding allocate first slot_size
  nothing_as_a_byte = refl

  module _ (size : ℕ) where
    -- a size is refused as unsupported where it is longer than any slot
    pub longer_refused : longest_slot < size → allocate G m size ≡ refused UnsupportedSize
    unfolding allocate
    longer_refused h = rw (eq-eqb (class_of G size) classes ((class_none G size).1 h))

    held : eqb (class_of G size) classes ≡ false → Held (allocate G m size)
    unfolding allocate
    held p = search (past, p, tested, small, full, none, served)

    -- and only there
    pub refused_longer : allocate G m size ≡ refused UnsupportedSize → longest_slot < size
    refused_longer e = go (eqb (class_of G size) classes) refl
      where
        go : (t : Bool) → eqb (class_of G size) classes ≡ t → longest_slot < size
        go true p = (class_none G size).0 (eqb-true (class_of G size) classes p)
        go false p = absurd (held_other G (held p) e)
