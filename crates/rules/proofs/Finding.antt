-- What a served allocation and a served free found in the metadata.
use Prim.Native.Nat.{ℕ, ◌/◌, ◌<◌}
use mathlib.Core.Path.{◌≡◌, refl, sym, subst}
use mathlib.Core.Bool.{Bool, true, false, cond, not, and-eq-true_iff}
use mathlib.Core.List.{List}
use native.Mathlib.Omega.{arith}
use lib.Dec.{leb, ltb, eqb}
use borrow.Author.Tests.{leb-false, eqb-true, eqb-false, not-false}
use Rattle.answer.specs.declared.Refusal.{Refusal}
use Rattle.rules.specs.Outcome.{Outcome, refused, allocated, freed, told, shown}
use Rattle.mwc.specs.declared.Generator.{Generator}
use Rattle.geometry.specs.declared.Layout.{Layout}
use Rattle.geometry.specs.Layout.{classes, class_of, slots, heap_length, slot_start, locate}
use Rattle.bitmap.specs.Bitmap.{bit}
use Rattle.bitmap.proofs.Slot.{Clear, is_set_lem}
use Rattle.probe.proofs.Chosen.{probe_clear}
use Rattle.metadata.specs.Metadata.{generator_of, count_of, bitmap_of}
use Rattle.probe.specs.Probe.{draws}
use Rattle.rules.specs.Allocate.{found_in, allocate}
use Rattle.geometry.specs.declared.Location.{Location}
use Rattle.geometry.proofs.Slots.{located_start}
use Rattle.rules.specs.Object.{is_live, is_start, free}

-- an outcome that is no refusal
abbrev pub Unrefused : Outcome → Type 0
Unrefused (refused r) = ⊥
Unrefused (allocated c i g) = Unit {0}
Unrefused (freed c i) = Unit {0}
Unrefused (told value offset bytes) = Unit {0}
Unrefused (shown v) = Unit {0}

-- none of the tests before it refused
pub passed : (t : Bool) (r : Refusal) (x y : Outcome) → Unrefused y → cond t (refused r) x ≡ y → (t ≡ false) × (x ≡ y)
passed true r x y s e = absurd (subst Unrefused (sym e) s)
passed false r x y s e = (refl, e)

-- a clear slot of the size's class, which counts less than half of its slots
pub allocate_finds : (G : Layout) (m : List ℕ) (size : ℕ) {c i : ℕ} {g : Generator} → allocate G m size ≡ allocated c i g
    → (c ≡ class_of G size) × Clear (bitmap_of G c m) (slots G c) i × (count_of c m < slots G c / 2)
unfolding allocate
allocate_finds G m size {c} {i} e =
    let k : ℕ = class_of G size in
    let n : ℕ = slots G k in
    let b : List ℕ = bitmap_of G k m in
    let held = passed (eqb k classes) _ _ _ tt e in
    let large = passed (ltb n 2) _ _ _ tt held.1 in
    let room = passed (leb (n / 2) (count_of k m)) _ _ _ tt large.1 in
    let found = passed (leb n (found_in G m k).slot) _ _ _ tt room.1 in
    let half : count_of k m < n / 2 = leb-false (n / 2) (count_of k m) room.0 in
    let below : (found_in G m k).slot < n = leb-false n (found_in G m k).slot found.0 in
    let class : c ≡ k = cc found.1 in
    let slot : i ≡ (found_in G m k).slot = cc found.1 in
    rw (class, slot) (refl, probe_clear b n (generator_of m) 0 draws below, half)

-- a set slot that starts at the offset, of a class that counts some
pub free_finds : (G : Layout) (m : List ℕ) (offset : ℕ) {c i : ℕ} → free G m offset ≡ freed c i
    → (offset ≡ slot_start G c i) × (i < slots G c) × (bit (bitmap_of G c m) i ≡ 1) × (0 < count_of c m)
unfolding free
free_finds G m offset {c} {i} e =
    let l : Location = locate G offset in
    let n : ℕ = slots G l.class in
    let inside = passed (leb (heap_length G) offset) _ _ _ tt e in
    let start = passed (not (is_start G l)) _ _ _ tt inside.1 in
    let live = passed (not (is_live G m l)) _ _ _ tt start.1 in
    let begins = (and-eq-true_iff (eqb l.into 0) (ltb l.slot n)).0 (not-false (is_start G l) start.0) in
    let set = is_set_lem (bitmap_of G l.class m) n l.slot (not-false (is_live G m l) live.0) in
    let counted = passed (eqb (count_of l.class m) 0) _ _ _ tt live.1 in
    let some : count_of l.class m ≡ 0 → ⊥ = eqb-false (count_of l.class m) 0 counted.0 in
    let class : c ≡ l.class = cc counted.1 in
    let slot : i ≡ l.slot = cc counted.1 in
    rw (class, slot) (located_start G offset (eqb-true l.into 0 begins.0), set.0, set.1, omega arith)
