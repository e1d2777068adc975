-- Metadata whose counts are those of its bitmaps are found corrupt by no request.
use Rattle.std.specs.Prelude.{Some, None}
use Prim.Native.Nat.{ℕ, ◌/◌, ◌<◌}
use mathlib.Core.Path.{◌≡◌, refl}
use mathlib.Core.Bool.{Bool, true, false, cond, not}
use mathlib.Core.List.{List}
use native.Mathlib.Omega.{arith}
use borrow.Author.Tests.{leb-true, leb-false, eqb-true, eqb-false, not-false}
use lib.Dec.{leb, ltb, eqb}
use Rattle.geometry.specs.declared.Layout.{Layout}
use Rattle.geometry.specs.declared.Location.{Location}
use Rattle.geometry.specs.Layout.{classes, class_of, slots, heap_length, locate}
use Rattle.geometry.proofs.Geometry.{class_le}
use Rattle.geometry.proofs.Slots.{slots_class}
use Rattle.bitmap.specs.Bitmap.{count_set}
use Rattle.bitmap.proofs.Counted.{count_some}
use Rattle.bitmap.proofs.Slot.{is_set_lem}
use Rattle.request.specs.declared.Request.TheVariants.{Allocate, Free, Remaining, Copy, Read}
use Rattle.request.specs.Parse.{Parsed}
use Rattle.answer.specs.declared.Refusal.{Refusal}
use Rattle.answer.specs.declared.Refusal.TheVariants.{UnsupportedSize, ClassTooSmall, ClassAtCapacity, OutOfRange}
use Rattle.answer.specs.declared.Refusal.TheVariants.{NotASlotStart, NotAllocated, CorruptMetadata}
use Rattle.answer.specs.Reply.{number_of}
use Rattle.metadata.specs.Metadata.{generator_of, count_of, bitmap_of}
use Rattle.rules.specs.Outcome.{Outcome, refused, reply}
use Rattle.probe.specs.Probe.{draws}
use Rattle.rules.specs.Allocate.{found_in, allocate}
use Rattle.rules.specs.Object.{is_live, is_start, free, remaining, copy}
use Rattle.rules.specs.Read.{read}
use Rattle.rules.specs.Serve.{Lent, act}
use Rattle.probe.proofs.Chosen.{probe_room}

module _ (G : Layout) where
  -- an outcome is another than that refusal
  pub record Sane (o : Outcome) : Type 0 where
    pub other : (reply G o).number ≡ number_of CorruptMetadata → ⊥

  -- by a test, and after it
  past : (t : Bool) (r : Refusal) {o : Outcome} → (t ≡ true → Sane (refused r)) → (t ≡ false → Sane o) → Sane (cond t (refused r) o)
  past true r by after = by refl
  past false r by after = after refl

  -- what looks at the offset alone
  inside : (offset : ℕ) {o : Outcome} → Sane o → Sane (cond (leb (heap_length G) offset) (refused OutOfRange) o)
  inside offset served = past (leb (heap_length G) offset) OutOfRange (λ p. record { other = λ e. omega (arith, e) }) (λ p. served)

  module _ (m : List ℕ) (counted : (c : ℕ) → c < classes → count_of c m ≡ count_set (bitmap_of G c m) (slots G c)) where
    -- an allocation in a class with room finds a clear slot
    allocate_sane : (size : ℕ) → Sane (allocate G m size)
    unfolding allocate
    allocate_sane size =
        past (eqb c classes) UnsupportedSize (λ p. record { other = λ e. omega (arith, e) }) (λ p.
        past (ltb n 2) ClassTooSmall (λ q. record { other = λ e. omega (arith, e) }) (λ q.
        past (leb (n / 2) (count_of c m)) ClassAtCapacity (λ r. record { other = λ e. omega (arith, e) }) (λ r.
        past (leb n (found_in G m c).slot) CorruptMetadata (λ s.
        let class : c < classes = omega (arith, class_le G size, eqb-false c classes p) in
        let room : count_set (bitmap_of G c m) n < n = omega (arith, leb-false (n / 2) (count_of c m) r, counted c class) in
        absurd (omega (arith, leb-true n (found_in G m c).slot s, probe_room (bitmap_of G c m) n room (generator_of m) 0 draws)))
        (λ s. record { other = λ e. omega (arith, e) }))))
      where
        c : ℕ
        c = class_of G size

        n : ℕ
        n = slots G c

    -- a free of a set slot finds a class that counts some
    free_sane : (offset : ℕ) → Sane (free G m offset)
    unfolding free
    free_sane offset =
        past (leb (heap_length G) offset) OutOfRange (λ p. record { other = λ e. omega (arith, e) }) (λ p.
        past (not (is_start G l)) NotASlotStart (λ q. record { other = λ e. omega (arith, e) }) (λ q.
        past (not (is_live G m l)) NotAllocated (λ r. record { other = λ e. omega (arith, e) }) (λ r.
        past (eqb (count_of l.class m) 0) CorruptMetadata (λ s.
        let (slot, set) = is_set_lem b n l.slot (not-false (is_live G m l) r) in
        let some = count_some b n l.slot slot set in
        absurd (omega (arith, eqb-true (count_of l.class m) 0 s, counted l.class (slots_class G l.class l.slot slot))))
        (λ s. record { other = λ e. omega (arith, e) }))))
      where
        l : Location
        l = locate G offset

        n : ℕ
        n = slots G l.class

        b : List ℕ
        b = bitmap_of G l.class m

    -- no other request looks
    pub act_sane : (lent : Lent) (p : Parsed) → Sane (act G m lent p)
    unfolding remaining copy read
    act_sane lent (Some (Allocate size)) = allocate_sane size
    act_sane lent (Some (Free offset)) = free_sane offset
    act_sane lent (Some (Remaining offset)) = inside offset (record { other = λ e. omega (arith, e) })
    act_sane lent (Some (Copy offset kind)) = inside offset (record { other = λ e. omega (arith, e) })
    act_sane lent (Some (Read offset count)) = inside offset (record { other = λ e. omega (arith, e) })
    act_sane lent None = record { other = λ e. omega (arith, e) }
