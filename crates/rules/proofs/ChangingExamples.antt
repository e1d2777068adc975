-- Examples of the words of the theorem on what requests leave alone: what they hold of, and near misses.
use Rattle.std.specs.Prelude.{Some}
use Prim.Native.Nat.{ℕ, ◌*◌}
use mathlib.Core.Path.{◌≡◌, refl}
use mathlib.Core.List.{List}
use native.Mathlib.Omega.{arith}
use lib.ListN.{set, replicate, length-set}
use lib.Seq.{get_or-set_other}
use Rattle.search.specs.First.{first}
use Rattle.geometry.specs.declared.Layout.{Layout}
use Rattle.geometry.specs.Layout.{layout_of, classes, slot_size, bitmap_at, metadata_length}
use Rattle.request.specs.declared.Kind.{Kind}
use Rattle.request.specs.declared.Request.TheVariants.{Free, Copy}
use Rattle.rules.specs.Object.{space}
use Rattle.rules.specs.Changing.{InSlot, MayChange, KeptBut}

-- regions of 1,024 bytes: class 5 has slots of 256 bytes from 5,120 on, class 7 one slot, from 7,168 on, and class 8 none
abbrev G : Layout
G = layout_of (classes * 1024)

-- slot 1 of class 5 and that of class 7 are live
abbrev m : List ℕ
m = set (set (replicate (metadata_length G) 0) (bitmap_at G 5) 2) (bitmap_at G 7) 1

-- ---- a copy into an object, 100 bytes from its start: from there to its last byte, and neither the byte before nor the one after

rest : space G m 5_476 ≡ 156
unfolding space bitmap_at slot_size first
rest = refl

copy_first : (kind : Kind) → MayChange G m (Some (Copy 5_476 kind)) 5_476
copy_first kind = rw rest (omega arith, omega arith)

copy_last : (kind : Kind) → MayChange G m (Some (Copy 5_476 kind)) 5_631
copy_last kind = rw rest (omega arith, omega arith)

before_copy : (kind : Kind) → MayChange G m (Some (Copy 5_476 kind)) 5_475 → ⊥
before_copy kind f = omega (arith, f.0)

after_copy : (kind : Kind) → MayChange G m (Some (Copy 5_476 kind)) 5_632 → ⊥
after_copy kind f = omega (arith, f.1, rest)

-- nothing is live there, or there is no slot: no byte
none_live : space G m 5_120 ≡ 0
unfolding space bitmap_at slot_size first
none_live = refl

no_slot : space G m 8_192 ≡ 0
unfolding space bitmap_at slot_size first
no_slot = refl

copy_to_none : (kind : Kind) (x : ℕ) → MayChange G m (Some (Copy 5_120 kind)) x → ⊥
copy_to_none kind x f = omega (arith, f.0, f.1, none_live)

copy_outside : (kind : Kind) (x : ℕ) → MayChange G m (Some (Copy 8_192 kind)) x → ⊥
copy_outside kind x f = omega (arith, f.0, f.1, no_slot)

-- ---- a free: from the first byte of the object to its last, far behind, and not the byte before or after

all : space G m 7_168 ≡ 1_024
unfolding space bitmap_at slot_size first
all = refl

free_first : MayChange G m (Some (Free 7_168)) 7_168
unfolding slot_size first
free_first = (refl, rw all (omega arith, omega arith))

free_last : MayChange G m (Some (Free 7_168)) 8_191
unfolding slot_size first
free_last = (refl, rw all (omega arith, omega arith))

before_free : MayChange G m (Some (Free 7_168)) 7_167 → ⊥
before_free f = omega (arith, f.1.0)

after_free : MayChange G m (Some (Free 7_168)) 8_192 → ⊥
after_free f = omega (arith, f.1.1, all)

-- no object starts there, or none that is live: no byte
free_amid : (x : ℕ) → MayChange G m (Some (Free 7_169)) x → ⊥
unfolding slot_size first
free_amid x f = let e : ◌≡◌ {A = ℕ} 1 0 = f.0 in omega arith

free_of_none : (x : ℕ) → MayChange G m (Some (Free 5_120)) x → ⊥
free_of_none x f = omega (arith, f.1.0, f.1.1, none_live)

-- regions of 16,384 bytes, which the last class's slot fills; it is live
abbrev large : Layout
large = layout_of (classes * 16_384)

abbrev m' : List ℕ
m' = set (replicate (metadata_length large) 0) (bitmap_at large 11) 1

all_large : space large m' 180_224 ≡ 16_384
unfolding space bitmap_at slot_size first
all_large = refl

free_large : MayChange large m' (Some (Free 180_224)) 196_607
unfolding slot_size first
free_large = (refl, rw all_large (omega arith, omega arith))

after_large : MayChange large m' (Some (Free 180_224)) 196_608 → ⊥
after_large f = omega (arith, f.1.1, all_large)

-- ---- in slots

last_in_slot : InSlot G 8_191
unfolding slot_size first
last_in_slot = omega arith

first_outside : InSlot G 8_192 → ⊥
unfolding slot_size first
first_outside some = omega (arith, some)

last_of_large : InSlot large 196_607
unfolding slot_size first
last_of_large = omega arith

past_the_end : InSlot large 196_608 → ⊥
unfolding slot_size first
past_the_end some = omega (arith, some)

-- ---- kept but for some bytes

one_changed : (h : List ℕ) (v : ℕ) → KeptBut (λ x. x ≡ 7) h (set h 7 v)
one_changed h v = record { size = length-set h 7 v; bytes = λ x f. get_or-set_other h 7 x v 0 f }

-- near misses: another byte changed, and the same far behind; the end cut off, though it was zero
another_changed : KeptBut (λ x. x ≡ 7) (replicate 16 0) (set (replicate 16 0) 8 1) → ⊥
another_changed k = let e : ◌≡◌ {A = ℕ} 1 0 = k.bytes 8 (λ e. omega (arith, e)) in omega arith

far_changed : KeptBut (λ x. x ≡ 7) (replicate 16_384 0) (set (replicate 16_384 0) 16_383 1) → ⊥
far_changed k = let e : ◌≡◌ {A = ℕ} 1 0 = k.bytes 16_383 (λ e. omega (arith, e)) in omega arith

end_cut_off : KeptBut (λ x. x ≡ 7) (replicate 16 0) (replicate 15 0) → ⊥
end_cut_off k = omega (arith, k.size)
