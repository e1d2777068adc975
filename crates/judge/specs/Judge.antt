-- What is judged before anything else: the lengths of heap and metadata, and before a request the live counts.
use Rattle.std.specs.Prelude.{ℕ, ◌/◌, ◌≤◌, ◌≡◌, Bool, not, List, [], ◌∷◌, ltb, eqb, length, Result, Ok, Err}
use Rattle.search.specs.First.{first}
use Rattle.geometry.specs.declared.Layout.{Layout}
use Rattle.geometry.specs.Layout.{classes, longest_region, layout_of, heap_length, slots, metadata_length}
use Rattle.answer.specs.declared.Refusal.{Refusal}
use Rattle.answer.specs.declared.Refusal.TheVariants.{HeapLength, MetadataLength, CorruptMetadata}
use Rattle.answer.specs.Checks.{◌when◌, checked}
use Rattle.metadata.specs.Metadata.{count_of}

-- ---- the lengths

-- the layout, or the refusal
abbrev pub Judged : Type 0
Judged = Result Layout Refusal

unfoldable pub lengths : ℕ → ℕ → Judged
lengths heap_bytes metadata_bytes =
    let G : Layout = layout_of heap_bytes in
    checked Err
    (HeapLength when eqb G.region 0
    ∷ MetadataLength when not (eqb metadata_bytes (metadata_length G))
    ∷ [])
    (Ok G)

-- what comes of the layout, or of the refusal
abbrev pub once_laid : {A : Type 0} → (Refusal → A) → (Layout → A) → Judged → A
once_laid refused f (Ok G) = f G
once_laid refused f (Err r) = refused r

-- what may be relied on once lengths were judged right
pub record Fits (G : Layout) (heap_bytes metadata_bytes : ℕ) : Type 0 where
  pub small : G.region ≤ longest_region
  pub heap : heap_bytes ≡ heap_length G
  pub metadata : metadata_bytes ≡ metadata_length G

-- ---- the live counts

-- a class counts more live objects than half of its slots
abbrev pub is_over : Layout → List ℕ → ℕ → Bool
is_over G m c = ltb (slots G c / 2) (count_of c m)

-- some class does
abbrev pub any_over : Layout → List ℕ → Bool
any_over G m = ltb (first (is_over G m) 0 classes) classes

-- what a request goes by: the layout, or the refusal for a length or a count
unfoldable pub admit : ℕ → List ℕ → Judged
admit heap_bytes m =
    once_laid Err (λ G. checked Err (CorruptMetadata when any_over G m ∷ []) (Ok G)) (lengths heap_bytes (length m))
