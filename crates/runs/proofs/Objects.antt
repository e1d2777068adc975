-- Lists of objects that are slots.
use Prim.Native.Nat.{ℕ, suc, ◌+◌, ◌≤◌, ◌<◌}
use mathlib.Core.Path.{◌≡◌, refl, sym, subst, ap, ◌∙◌}
use mathlib.Core.Bool.{Bool, true, false, cond, ◌&&◌}
use mathlib.Core.List.{List, [], ◌∷◌}
use native.Mathlib.Omega.{arith}
use lib.Dec.{leb, ltb, eqb}
use borrow.Author.Tests.{leb-true, ltb-true, eqb-true, eq-eqb, ne_eqb}
use Rattle.geometry.specs.declared.Layout.{Layout}
use Rattle.geometry.specs.Layout.{slots, slot_start, locate}
use Rattle.runs.specs.Live.{Object, without, size_of, has_byte, holding, of_class}
use Rattle.geometry.proofs.Slots.{slot_located, slot_size_pos, start_located}

-- an object is a slot of its class
pub record IsSlot (G : Layout) (o : Object) : Type 0 where
  pub slot : ℕ
  pub within : slot < slots G o.class
  pub starts : o.start ≡ slot_start G o.class slot

abbrev pub Slots : Layout → List Object → Type 0
Slots G [] = Unit {0}
Slots G (o ∷ os) = IsSlot G o × Slots G os

-- ---- by where they start

-- how many objects of class c start at x
unfoldable pub starting : ℕ → ℕ → List Object → ℕ
starting c x [] = 0
starting c x (o ∷ os) = cond (eqb o.start x && eqb o.class c) 1 0 + starting c x os

module _ (x : ℕ) where
  -- the first object starts at x and goes, or stays
  pub without_cons : (o : Object) (os : List Object) (P : List Object → Type 0)
      → (eqb o.start x ≡ true → P (without x os)) → (eqb o.start x ≡ false → P (o ∷ without x os)) → P (without x (o ∷ os))
  unfolding without
  without_cons o os P f g = go (eqb o.start x) refl
    where
      go : (t : Bool) → eqb o.start x ≡ t → P (without x (o ∷ os))
      go true e = rw (e, without) (f e)
      go false e = rw (e, without) (g e)

  -- what stays is still slots
  pub without_slots : (G : Layout) (os : List Object) → Slots G os → Slots G (without x os)
  unfolding without
  without_slots G [] h = tt
  without_slots G (o ∷ os) (s, h) = without_cons o os (Slots G) (λ e. without_slots G os h) (λ e. (s, without_slots G os h))

  module _ (c : ℕ) where
    -- those that start at x and the others make all of a class
    pub class_parts : (os : List Object) → of_class c os ≡ starting c x os + of_class c (without x os)
    unfolding of_class starting without
    class_parts [] = refl
    class_parts (o ∷ os) =
        without_cons o os (λ l. of_class c (o ∷ os) ≡ starting c x (o ∷ os) + of_class c l)
        (λ e. rw e (omega (arith, class_parts os))) (λ e. rw e (omega (arith, class_parts os)))

    -- none is left that starts at x, and those that start elsewhere are as many as before
    pub starting_gone : (os : List Object) → starting c x (without x os) ≡ 0
    unfolding starting without
    starting_gone [] = refl
    starting_gone (o ∷ os) =
        without_cons o os (λ l. starting c x l ≡ 0) (λ e. starting_gone os) (λ e. rw e (omega (arith, starting_gone os)))

    pub starting_kept : (y : ℕ) → (x ≡ y → ⊥) → (os : List Object) → starting c y (without x os) ≡ starting c y os
    unfolding starting without
    starting_kept y n [] = refl
    starting_kept y n (o ∷ os) =
        without_cons o os (λ l. starting c y l ≡ starting c y (o ∷ os))
        (λ e. rw (eqb-true o.start x e, ne_eqb x y n) (omega (arith, starting_kept y n os))) (λ e. rw (starting_kept y n os))

-- ---- by the bytes that they have

module _ (G : Layout) where
  -- a slot is located at its start, so no two slots start at one byte
  pub same_start : (c i d j : ℕ) → i < slots G c → j < slots G d → slot_start G c i ≡ slot_start G d j → (c ≡ d) × (i ≡ j)
  same_start c i d j h k e =
      let (class, slot, into) = start_located G c i h in
      let (class', slot', into') = start_located G d j k in
      (sym class ∙ ap (λ x. (locate G x).class) e ∙ class', sym slot ∙ ap (λ x. (locate G x).slot) e ∙ slot')

  -- no object of another class starts where a slot does
  pub starting_other : (c i d : ℕ) → i < slots G c → (d ≡ c → ⊥) → (os : List Object) → Slots G os → starting d (slot_start G c i) os ≡ 0
  unfolding starting
  starting_other c i d h n [] s = refl
  starting_other c i d h n (o ∷ os) (s, rest) =
      go (eqb o.start (slot_start G c i)) (eqb o.class d) refl refl (starting_other c i d h n os rest)
    where
      go : (t u : Bool) → eqb o.start (slot_start G c i) ≡ t → eqb o.class d ≡ u → starting d (slot_start G c i) os ≡ 0
          → cond (t && u) 1 0 + starting d (slot_start G c i) os ≡ 0
      go true true e f none =
          let start : slot_start G o.class s.slot ≡ slot_start G c i = sym s.starts ∙ eqb-true o.start (slot_start G c i) e in
          absurd (n (sym (eqb-true o.class d f) ∙ (same_start o.class s.slot c i s.within h start).0))
      go true false e f none = omega (arith, none)
      go false u e f none = omega (arith, none)

  -- an object is one that starts where it does
  pub starting_self : (o : Object) (s : IsSlot G o) (os : List Object)
      → starting o.class (slot_start G o.class s.slot) (o ∷ os) ≡ suc (starting o.class (slot_start G o.class s.slot) os)
  unfolding starting
  starting_self o s os = rw (eq-eqb o.start (slot_start G o.class s.slot) s.starts, eq-eqb o.class o.class refl) (omega arith)

  module _ (x : ℕ) where
    -- an object does not have byte x, or x is located in it
    has_byte_lem : (o : Object) (s : IsSlot G o) (P : ℕ → Type 0) → P 0 → ((locate G x).class ≡ o.class → (locate G x).slot ≡ s.slot → P 1)
        → P (cond (has_byte G x o) 1 0)
    has_byte_lem o s P f g = go (leb o.start x) (ltb x (o.start + size_of G o)) refl refl
      where
        go : (t u : Bool) → leb o.start x ≡ t → ltb x (o.start + size_of G o) ≡ u → P (cond (t && u) 1 0)
        go false u e k = f
        go true false e k = f
        go true true e k =
            let from = leb-true o.start x e in
            let below = ltb-true x (o.start + size_of G o) k in
            let some = slot_size_pos G o.class s.slot s.within in
            let (class, slot) = slot_located G o.class s.slot x s.within (omega arith) (omega arith) in
            g class slot

    -- the objects that have byte x start where it is located
    holding_starting : (c i : ℕ) → (locate G x).class ≡ c → (locate G x).slot ≡ i → (os : List Object) → Slots G os
        → holding G x os ≤ starting c (slot_start G c i) os
    unfolding holding starting
    holding_starting c i class slot [] h = omega arith
    holding_starting c i class slot (o ∷ os) (s, h) =
        let rest = holding_starting c i class slot os h in
        has_byte_lem o s (λ n. n + holding G x os ≤ starting c (slot_start G c i) (o ∷ os)) (omega arith) (λ p q. omega (arith, own p q))
      where
        own : (locate G x).class ≡ o.class → (locate G x).slot ≡ s.slot
            → starting c (slot_start G c i) (o ∷ os) ≡ suc (starting c (slot_start G c i) os)
        own p q =
            let at : ℕ → ℕ → Type 0 = λ d j. starting d (slot_start G d j) (o ∷ os) ≡ suc (starting d (slot_start G d j) os) in
            subst (λ d. at d i) (sym (sym class ∙ p)) (subst (at o.class) (sym (sym slot ∙ q)) (starting_self o s os))

    -- at most one has it, where at most one starts at each slot
    pub holding_one : (os : List Object) → Slots G os → ((c i : ℕ) → i < slots G c → starting c (slot_start G c i) os ≤ 1) → holding G x os ≤ 1
    unfolding holding starting
    holding_one [] h k = omega arith
    holding_one (o ∷ os) (s, h) k =
        has_byte_lem o s (λ n. n + holding G x os ≤ 1) (omega (arith, holding_one os h (λ c i l. omega (arith, k c i l))))
        (λ p q. omega (arith, holding_starting o.class s.slot p q os h, starting_self o s os, k o.class s.slot s.within))
