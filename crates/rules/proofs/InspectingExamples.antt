-- Examples of heaps that hold the same bytes in clear slots, and near misses.
use Prim.Native.Nat.{ℕ, ◌+◌, ◌*◌, ◌<◌}
use mathlib.Core.Path.{◌≡◌, refl, sym, ◌∙◌}
use mathlib.Core.Bool.{false, true≢false}
use mathlib.Core.List.{List}
use native.Mathlib.Omega.{arith}
use lib.ListN.{length, get_or, set, replicate, length-set}
use lib.Seq.{get_or-set_same, get_or-set_other}
use Rattle.search.specs.First.{first}
use Rattle.geometry.specs.declared.Layout.{Layout}
use Rattle.geometry.specs.Layout.{classes, heap_length, layout_of, slot_size, slots, bitmap_at, locate}
use Rattle.rules.specs.Object.{is_live}
use Rattle.rules.specs.Inspected.{ClearAlike}
use Rattle.rules.proofs.Alike.{alike_either}

-- a heap with regions of 1,024 bytes: class 0 has 128 slots of 8 bytes, class 5 four of 256 (from 5,120 on), class 7, the last that has any, one of
-- 1,024 (from 7,168 on), and from 8,192 on there are none
abbrev G : Layout
G = layout_of (classes * 1_024)

-- two heaps that differ in one byte are alike where it lies in no clear slot, and else they are not
module _ (m h : List ℕ) (x v : ℕ) where
  one_alike : ((locate G x).slot < slots G (locate G x).class → is_live G m (locate G x) ≡ false → ⊥) → ClearAlike G m h (set h x v)
  one_alike f =
      (alike_either G m h (set h x v) (sym (length-set h x v))).1 (λ y some clear.
      sym (get_or-set_other h x y v 0 (λ e. f (rw e at some) (rw e at clear))))

  one_unlike : x < length h → (get_or h x 0 ≡ v → ⊥) → (locate G x).slot < slots G (locate G x).class → is_live G m (locate G x) ≡ false
      → ClearAlike G m h (set h x v) → ⊥
  one_unlike inside other some clear same =
      other ((alike_either G m h (set h x v) (sym (length-set h x v))).0 same x some clear ∙ get_or-set_same h x v 0 inside)

-- slots 0 and 100 of class 0 and slot 2 of class 5 are live, and that of class 7 is where its bit is 1
abbrev living : ℕ → List ℕ
living last = set (set (set (set (replicate 94 0) (bitmap_at G 0) 1) (bitmap_at G 0 + 12) 16) (bitmap_at G 5) 4) (bitmap_at G 7) last

module _ (h : List ℕ) (v : ℕ) where
  -- a byte of a live slot: in the first slot of all, in one beyond 64, in a large one, and the last of the last slot
  alike_first : ClearAlike G (living 0) h (set h 7 v)
  unfolding bitmap_at slot_size first
  alike_first = one_alike (living 0) h 7 v (λ some clear. true≢false clear)

  alike_beyond : ClearAlike G (living 0) h (set h 803 v)
  unfolding bitmap_at slot_size first
  alike_beyond = one_alike (living 0) h 803 v (λ some clear. true≢false clear)

  alike_large : ClearAlike G (living 0) h (set h 5_887 v)
  unfolding bitmap_at slot_size first
  alike_large = one_alike (living 0) h 5_887 v (λ some clear. true≢false clear)

  alike_last : ClearAlike G (living 1) h (set h 8_191 v)
  unfolding bitmap_at slot_size first
  alike_last = one_alike (living 1) h 8_191 v (λ some clear. true≢false clear)

  -- and bytes in no slot: the first of them, and the heap's last
  alike_outside : ClearAlike G (living 0) h (set h 8_192 v)
  unfolding slot_size first
  alike_outside = one_alike (living 0) h 8_192 v (λ some clear. omega (arith, some))

  alike_at_the_end : ClearAlike G (living 0) h (set h 12_287 v)
  unfolding slot_size first
  alike_at_the_end = one_alike (living 0) h 12_287 v (λ some clear. omega (arith, some))

  -- near misses: a byte of the slots beside them, and of the last slot where it is clear, its last too
  module _ (whole : length h ≡ heap_length G) where
    unlike_first : (get_or h 8 0 ≡ v → ⊥) → ClearAlike G (living 0) h (set h 8 v) → ⊥
    unfolding bitmap_at slot_size first
    unlike_first other = one_unlike (living 0) h 8 v (omega arith) other (omega arith) refl

    unlike_beyond : (get_or h 799 0 ≡ v → ⊥) → ClearAlike G (living 0) h (set h 799 v) → ⊥
    unfolding bitmap_at slot_size first
    unlike_beyond other = one_unlike (living 0) h 799 v (omega arith) other (omega arith) refl

    unlike_large : (get_or h 6_000 0 ≡ v → ⊥) → ClearAlike G (living 0) h (set h 6_000 v) → ⊥
    unfolding bitmap_at slot_size first
    unlike_large other = one_unlike (living 0) h 6_000 v (omega arith) other (omega arith) refl

    unlike_last : (get_or h 8_191 0 ≡ v → ⊥) → ClearAlike G (living 0) h (set h 8_191 v) → ⊥
    unfolding bitmap_at slot_size first
    unlike_last other = one_unlike (living 0) h 8_191 v (omega arith) other (omega arith) refl
