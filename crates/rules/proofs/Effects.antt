-- What a served allocation and a served free find in the metadata and leave there, slot by slot and count by count.
use Prim.Native.Nat.{ℕ, suc, ◌+◌, ◌*◌, ◌/◌, ◌^◌, ◌≤◌, ◌<◌}
use mathlib.Core.Path.{◌≡◌, ap, ◌∙◌}
use mathlib.Core.List.{List}
use native.Mathlib.Nat.{zero-div}
use native.Mathlib.Decide.{ℕ_discrete, dec_lt}
use native.Mathlib.Omega.{arith}
use lib.ListN.{length, drop, replicate, length-take, length-replicate}
use lib.Seq.{get_or-take, get_or-drop}
use Rattle.mwc.specs.declared.Generator.{Generator}
use Rattle.geometry.specs.declared.Layout.{Layout}
use Rattle.geometry.specs.Layout.{classes, longest_region, class_of, slots, slot_start, locate, bitmap_at, bitmap_length, metadata_length}
use Rattle.geometry.proofs.Geometry.{bitmap_after}
use Rattle.geometry.proofs.Slots.{slots_le, slots_class, start_located}
use Rattle.bitmap.specs.Bitmap.{bit}
use Rattle.bitmap.proofs.Slot.{bit_past}
use Rattle.bitmap.proofs.Change.{Turned, set_turns, clear_turns}
use Rattle.writing.specs.Overwrite.{overwrite}
use Rattle.metadata.specs.Metadata.{with_generator, count_of, with_count, canary_of, bitmap_of}
use Rattle.rules.specs.Open.{Setup, fresh}
use Rattle.rules.specs.Outcome.{allocated, freed, reply, metadata_after}
use Rattle.rules.specs.Allocate.{allocate}
use Rattle.rules.specs.Object.{free}
use Rattle.writing.proofs.Writing.{overwrite_length}
use Rattle.metadata.proofs.Stored.{generator_length, generator_counts, generator_canary, generator_bitmaps}
use Rattle.metadata.proofs.Stored.{count_length, count_written, count_other, count_bitmaps, count_canary}
use Rattle.metadata.proofs.Stored.{canary_length, canary_counts, canary_bitmaps, bitmap_canary}
use Rattle.metadata.proofs.Stored.{bitmap_within, bitmap_length_lem, bitmap_written, bitmap_other, bitmap_counts}
use Rattle.writing.proofs.Parts.{zeros}
use Rattle.rules.proofs.Finding.{allocate_finds, free_finds}

-- the bit of slot i of class c
abbrev pub live_bit : Layout → List ℕ → ℕ → ℕ → ℕ
live_bit G m c i = bit (bitmap_of G c m) i

-- metadata that requests are admitted with
pub record Valid (G : Layout) (m : List ℕ) : Type 0 where
  pub small : G.region ≤ longest_region
  pub fits : length m ≡ metadata_length G
  pub few : (c : ℕ) → c < classes → count_of c m ≤ slots G c / 2

-- what a served allocation finds: a clear slot of a class that counts less than half of its slots
pub record Takes (G : Layout) (m : List ℕ) (c i : ℕ) : Type 0 where
  pub class : c < classes
  pub slot : i < slots G c
  pub clear : live_bit G m c i ≡ 0
  pub room : 2 * suc (count_of c m) ≤ slots G c

-- what a served free finds: a set slot of a class that counts some
pub record Ends (G : Layout) (m : List ℕ) (c i : ℕ) : Type 0 where
  pub class : c < classes
  pub slot : i < slots G c
  pub set : live_bit G m c i ≡ 1
  pub some : 0 < count_of c m

-- what either leaves: one slot's bit is now v, its class's count has changed as the bit has, and the others are as they were
pub record Changed (G : Layout) (m m' : List ℕ) (c i v : ℕ) : Type 0 where
  pub fits : length m' ≡ length m
  pub here : live_bit G m' c i ≡ v
  pub elsewhere : (d j : ℕ) → j < slots G d → ((d ≡ c) × (j ≡ i) → ⊥) → live_bit G m' d j ≡ live_bit G m d j
  pub count : count_of c m' + live_bit G m c i ≡ count_of c m + v
  pub others : (d : ℕ) → d < classes → (d ≡ c → ⊥) → count_of d m' ≡ count_of d m
  pub canary : canary_of m' ≡ canary_of m

-- the offset that a served allocation answers lies at the start of the slot taken
pub allocated_located : (G : Layout) (c i : ℕ) (g : Generator) → i < slots G c → let l = locate G (reply G (allocated c i g)).value in
    (l.class ≡ c) × (l.slot ≡ i) × (l.into ≡ 0)
allocated_located G c i g slot = start_located G c i slot

module _ (G : Layout) (m : List ℕ) (valid : Valid G m) where
  -- a bitmap with one slot's bit turned is written back, and the count is stored
  turned : {c i v : ℕ} {b : List ℕ} → c < classes → Turned (bitmap_of G c m) b i v → {n : ℕ} → n < 2 ^ 32
      → n + live_bit G m c i ≡ count_of c m + v
      → Changed G m (with_count (overwrite m (bitmap_at G c) b) c n) c i v
  turned {c} {i} {b} class t {n} word counted =
      record {
        fits = count_length m₁ c n ∙ length₁;
        here = ap (λ (x : List ℕ). bit x i) (count_bitmaps m₁ c n G class c ∙ written) ∙ t.here;
        elsewhere = λ d j l f. ap (λ (x : List ℕ). bit x j) (count_bitmaps m₁ c n G class d) ∙ elim (ℕ_discrete d c) [
          | yes q ↦ rw (q, written) (t.elsewhere j (λ p. f (q, p)))
          | no q ↦ ap (λ (x : List ℕ). bit x j) (bitmap_other G m fits c class b size d q)
        ];
        count = rw (count_written m₁ c n (omega (arith, length₁, fits, bitmap_after G classes)) class word) counted;
        others = λ d h f. count_other m₁ c n d f ∙ bitmap_counts G m fits c class b size d h;
        canary = count_canary m₁ c n class ∙ bitmap_canary G m fits c class b size;
      }
    where
      fits : length m ≡ metadata_length G
      fits = valid.fits

      m₁ : List ℕ
      m₁ = overwrite m (bitmap_at G c) b

      size : length b ≡ bitmap_length G c
      size = t.fits ∙ bitmap_length_lem G m fits c class

      length₁ : length m₁ ≡ length m
      length₁ = overwrite_length m (bitmap_at G c) b (omega (arith, size, bitmap_within G m fits c class))

      written : bitmap_of G c m₁ ≡ b
      written = bitmap_written G m fits c class b size

  -- a generator stored besides changes neither slots nor counts
  stored : {m' : List ℕ} {c i v : ℕ} (g : Generator) → Changed G m m' c i v → Changed G m (with_generator m' g) c i v
  stored {m'} {c} {i} g now =
      record {
        fits = generator_length m' g ∙ now.fits;
        here = ap (λ (x : List ℕ). bit x i) (generator_bitmaps m' g G c) ∙ now.here;
        elsewhere = λ d j l f. ap (λ (x : List ℕ). bit x j) (generator_bitmaps m' g G d) ∙ now.elsewhere d j l f;
        count = rw (generator_counts m' g c) now.count;
        others = λ d h f. generator_counts m' g d ∙ now.others d h f;
        canary = generator_canary m' g ∙ now.canary;
      }

  pub allocate_takes : (size : ℕ) {c i : ℕ} {g : Generator} → allocate G m size ≡ allocated c i g → (c ≡ class_of G size) × Takes G m c i
  allocate_takes size {c} {i} e =
      let (class, found, half) = allocate_finds G m size e in
      (class, record { class = slots_class G c i found.slot; slot = found.slot; clear = found.clear; room = omega arith })

  pub allocate_changes : {c i : ℕ} (g : Generator) → Takes G m c i → Changed G m (metadata_after G m (allocated c i g)) c i 1
  allocate_changes {c} {i} g t =
      let b : List ℕ = bitmap_of G c m in
      let byte : i / 8 < length b = omega (arith, bitmap_length_lem G m valid.fits c t.class) in
      stored g
      (turned t.class (set_turns b (slots G c) i t.slot byte t.clear) (omega (arith, t.room, slots_le G c, valid.small)) (omega (arith, t.clear)))

  pub free_ends : (offset : ℕ) {c i : ℕ} → free G m offset ≡ freed c i → (offset ≡ slot_start G c i) × Ends G m c i
  free_ends offset {c} {i} e =
      let (start, slot, set, some) = free_finds G m offset e in
      (start, record { class = slots_class G c i slot; slot = slot; set = set; some = some })

  pub free_changes : {c i : ℕ} → Ends G m c i → Changed G m (metadata_after G m (freed c i)) c i 0
  free_changes {c} {i} t =
      let b : List ℕ = bitmap_of G c m in
      let byte : i / 8 < length b = omega (arith, bitmap_length_lem G m valid.fits c t.class) in
      turned t.class (clear_turns b (slots G c) i t.slot byte t.set)
      (omega (arith, valid.few c t.class, slots_le G c, valid.small)) (omega (arith, t.set, t.some))

  -- what either leaves is valid again
  pub changed_valid : {m' : List ℕ} {c i v : ℕ} → Changed G m m' c i v → count_of c m' ≤ slots G c / 2 → Valid G m'
  changed_valid {c = c} now half =
      record {
        small = valid.small;
        fits = now.fits ∙ valid.fits;
        few = λ d h. elim (ℕ_discrete d c) [ yes q ↦ rw q half | no q ↦ rw (now.others d h q) (valid.few d h) ];
      }

-- opening leaves every count at 0 and every slot clear
pub fresh_none : (G : Layout) (s : Setup) (c : ℕ) → c < classes → count_of c (fresh G s) ≡ 0
fresh_none G s c h =
    let blank : List ℕ = replicate (metadata_length G) 0 in
    canary_counts (with_generator blank s.seeds) s.canary c h ∙ generator_counts blank s.seeds c ∙ simp (get_or-drop, zeros)

pub fresh_valid : (G : Layout) (s : Setup) → G.region ≤ longest_region → Valid G (fresh G s)
fresh_valid G s small =
    record {
      small = small;
      fits = canary_length (with_generator blank s.seeds) s.canary ∙ generator_length blank s.seeds ∙ length-replicate (metadata_length G) 0;
      few = λ c h. omega (arith, fresh_none G s c h);
    }
  where
    blank : List ℕ
    blank = replicate (metadata_length G) 0

pub fresh_clear : (G : Layout) (s : Setup) (c i : ℕ) → live_bit G (fresh G s) c i ≡ 0
fresh_clear G s c i =
    let blank : List ℕ = replicate (metadata_length G) 0 in
    let seeded : List ℕ = with_generator blank s.seeds in
    elim (dec_lt (i / 8) (bitmap_length G c)) [
      | yes h ↦ rw (canary_bitmaps seeded s.canary G c, generator_bitmaps blank s.seeds G c, get_or-take, get_or-drop, zeros, zero-div)
      | no h ↦ bit_past (bitmap_of G c (fresh G s)) i (omega (arith, length-take (bitmap_length G c) (drop (bitmap_at G c) (fresh G s))))
    ]
