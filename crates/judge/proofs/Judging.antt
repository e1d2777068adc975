-- Lengths and counts that are judged right, and what each way through comes to.
use Rattle.std.specs.Prelude.{Ok, Err}
use Prim.Native.Nat.{ℕ, ◌/◌, ◌≤◌, ◌<◌}
use mathlib.Core.Path.{◌≡◌, refl, sym, subst, ◌∙◌}
use mathlib.Core.Bool.{Bool, true, false}
use mathlib.Core.List.{List}
use native.Mathlib.Decide.{dec_lt}
use native.Mathlib.Omega.{arith}
use borrow.Author.Tests.{eq-eqb, ne_eqb, eqb-true, eqb-false, le-ltb, ltb-true}
use lib.Dec.{eqb}
use lib.ListN.{length}
use Rattle.search.specs.First.{first}
use Rattle.search.proofs.First.{first_passes}
use Rattle.geometry.specs.declared.Layout.{Layout}
use Rattle.geometry.specs.Layout.{classes, region_of, layout_of, slots, metadata_length}
use Rattle.geometry.proofs.Geometry.{laid}
use Rattle.answer.specs.declared.Refusal.{Refusal}
use Rattle.answer.specs.declared.Refusal.TheVariants.{HeapLength, MetadataLength, CorruptMetadata}
use Rattle.metadata.specs.Metadata.{count_of}
use Rattle.judge.specs.Judge.{lengths, Fits, is_over, any_over, admit, Judged}

unfit_laid : {r : Refusal} {G : Layout} → ◌≡◌ {A = Judged} (Err r) (Ok G) → ⊥
unfit_laid e = let z : ◌≡◌ {A = ℕ} 0 1 = cc in omega arith

laid_same : {F G : Layout} → ◌≡◌ {A = Judged} (Ok F) (Ok G) → F ≡ G
laid_same e = cc

module _ (n k : ℕ) where
  -- no heap has this length
  pub no_heap : region_of n ≡ 0 → lengths n k ≡ Err HeapLength
  unfolding lengths
  no_heap e = rw (eq-eqb (region_of n) 0 e)

  module _ (some : region_of n ≡ 0 → ⊥) where
    -- the metadata is not as long as the heap's
    pub other_length : (k ≡ metadata_length (layout_of n) → ⊥) → lengths n k ≡ Err MetadataLength
    unfolding lengths
    other_length e = rw (ne_eqb (region_of n) 0 some, ne_eqb k (metadata_length (layout_of n)) e)

    -- the lengths are right
    pub right_lengths : k ≡ metadata_length (layout_of n) → lengths n k ≡ Ok (layout_of n)
    unfolding lengths
    right_lengths e = rw (ne_eqb (region_of n) 0 some, eq-eqb k (metadata_length (layout_of n)) e)

    pub fits : k ≡ metadata_length (layout_of n) → Fits (layout_of n) n k
    fits e = record { small = (laid n).small; heap = (laid n).whole some; metadata = e }

  -- a layout that was found is the heap's, and all fits it
  pub laid_fits : {G : Layout} → lengths n k ≡ Ok G → (G ≡ layout_of n) × Fits G n k
  unfolding lengths
  laid_fits {G} e = go (eqb (region_of n) 0) (eqb k (metadata_length (layout_of n))) refl refl
    where
      go : (s t : Bool) → eqb (region_of n) 0 ≡ s → eqb k (metadata_length (layout_of n)) ≡ t → (G ≡ layout_of n) × Fits G n k
      go true t p q = let no : Err HeapLength ≡ Ok G = rw p at e in absurd (unfit_laid no)
      go false false p q = let no : Err MetadataLength ≡ Ok G = rw (p, q) at e in absurd (unfit_laid no)
      go false true p q =
          let same : layout_of n ≡ G = laid_same (rw (p, q) at e) in
          (sym same, subst (λ L. Fits L n k) same (fits (eqb-false (region_of n) 0 p) (eqb-true k (metadata_length (layout_of n)) q)))

-- no class counts more than half of its slots
pub none_over : (G : Layout) (m : List ℕ) → ((c : ℕ) → c < classes → count_of c m ≤ slots G c / 2) → any_over G m ≡ false
none_over G m few = le-ltb c classes (elim (dec_lt c classes) [
  | yes h ↦
      let over : slots G c / 2 < count_of c m = ltb-true (slots G c / 2) (count_of c m) (first_passes (is_over G m) 0 classes h) in
      absurd (omega (arith, few c h))
  | no h ↦ omega arith
])
  where
    c : ℕ
    c = first (is_over G m) 0 classes

-- what each way through an admission comes to
module _ (n : ℕ) (m : List ℕ) where
  pub admit_unfit : {r : Refusal} → lengths n (length m) ≡ Err r → admit n m ≡ Err r
  unfolding admit
  admit_unfit e = rw e

  module _ {G : Layout} (laid : lengths n (length m) ≡ Ok G) where
    pub admit_over : any_over G m ≡ true → admit n m ≡ Err CorruptMetadata
    unfolding admit
    admit_over e = rw (laid, e)

    pub admit_laid : any_over G m ≡ false → admit n m ≡ Ok G
    unfolding admit
    admit_laid e = rw (laid, e)

  -- the layout that a request goes by is that of the lengths
  pub admitted_laid : {G : Layout} → admit n m ≡ Ok G → lengths n (length m) ≡ Ok G
  admitted_laid {G} e = go (lengths n (length m)) refl
    where
      go : (j : Judged) → lengths n (length m) ≡ j → lengths n (length m) ≡ Ok G
      go (Err r) f = absurd (unfit_laid (sym (admit_unfit f) ∙ e))
      go (Ok F) f = counted (any_over F m) refl
        where
          counted : (t : Bool) → any_over F m ≡ t → lengths n (length m) ≡ Ok G
          counted true o = absurd (unfit_laid (sym (admit_over f o) ∙ e))
          counted false o = f ∙ sym (admit_laid f o) ∙ e

  -- it is the heap's, and all fits it
  pub admit_fits : {G : Layout} → admit n m ≡ Ok G → (G ≡ layout_of n) × Fits G n (length m)
  admit_fits e = laid_fits n (length m) (admitted_laid e)
