-- What an allocation comes to where no class holds the size, and where a slot is taken.
use Prim.Native.Nat.{ℕ, ◌+◌, ◌/◌, ◌≤◌, ◌<◌}
use mathlib.Core.Path.{◌≡◌, ◌∙◌}
use mathlib.Core.List.{List}
use native.Mathlib.Numerals.{add-one}
use native.Mathlib.Omega.{arith}
use borrow.Author.Tests.{lt-leb, le-ltb, eq-eqb, ne_eqb}
use Rattle.geometry.specs.declared.Layout.{Layout}
use Rattle.geometry.specs.Layout.{classes, slots, class_of, bitmap_at}
use Rattle.geometry.proofs.Geometry.{class_le}
use Rattle.answer.specs.declared.Refusal.TheVariants.{UnsupportedSize}
use Rattle.bitmap.specs.Bitmap.{set_slot}
use Rattle.probe.specs.declared.Found.{Found}
use Rattle.writing.specs.Overwrite.{overwrite}
use Rattle.metadata.specs.Metadata.{count_of, with_count, with_generator, bitmap_of}
use Rattle.rules.specs.Outcome.{refused, metadata_after}
use Rattle.rules.specs.Allocate.{found_in, taken, allocate}

module _ (G : Layout) (m : List ℕ) (size : ℕ) {c : ℕ} (of : c ≡ class_of G size) where
  -- no class holds it
  pub too_large : classes ≤ c → allocate G m size ≡ refused UnsupportedSize
  unfolding allocate
  too_large h =
      let last : c ≡ classes = omega (arith, class_le G size) in
      rw (← of, eq-eqb c classes last)

  -- a class does, which counts less than half of two slots or more, and one of them is clear
  pub slot_taken : c < classes → 2 ≤ slots G c → count_of c m < slots G c / 2 → (found_in G m c).slot < slots G c
      → allocate G m size ≡ taken G m c
  unfolding allocate
  slot_taken within two few clear =
      rw (
        ← of,
        ne_eqb c classes (λ e. omega arith),
        le-ltb (slots G c) 2 two,
        lt-leb (slots G c / 2) (count_of c m) few,
        lt-leb (slots G c) (found_in G m c).slot clear,
      )

-- with its bit set, the count raised and the generator stored the slot is taken
pub taken_metadata : (G : Layout) (m : List ℕ) (c : ℕ) {found : Found} {n : ℕ} {m₁ m₂ m₃ : List ℕ} → found ≡ found_in G m c → n ≡ count_of c m
    → m₁ ≡ overwrite m (bitmap_at G c) (set_slot (bitmap_of G c m) (slots G c) found.slot)
    → m₂ ≡ with_count m₁ c (n + 1)
    → m₃ ≡ with_generator m₂ found.generator
    → m₃ ≡ metadata_after G m (taken G m c)
taken_metadata G m c chosen counted set raised stored = stored ∙ rw (raised, set, counted, add-one, chosen)
