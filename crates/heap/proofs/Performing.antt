-- What an operation leaves alone: the heap, the metadata, or both.
use Prim.Native.Nat.{ℕ}
use mathlib.Core.Path.{◌≡◌, refl, sym}
use mathlib.Core.List.{List}
use lib.ListN.{take-append-drop}
use Rattle.geometry.specs.declared.Layout.{Layout}
use Rattle.request.specs.declared.Kind.{Kind}
use Rattle.rules.specs.Outcome.{Outcome, metadata_after, heap_after}
use Rattle.rules.specs.Object.{remaining, copy}
use Rattle.rules.specs.Read.{read}
use Rattle.rules.proofs.Outcomes.{Comes, refuses, serves, remaining_comes, copy_comes, read_comes}

-- a refusal leaves the heap and the metadata alone
heap_left : (G : Layout) (m h : List ℕ) {o o' : Outcome} → Comes o o' → heap_after G m h o ≡ h → h ≡ heap_after G m h o'
heap_left G m h (refuses r) e = refl
heap_left G m h serves e = sym e

metadata_left : (G : Layout) (m : List ℕ) {o o' : Outcome} → Comes o o' → metadata_after G m o ≡ m → m ≡ metadata_after G m o'
metadata_left G m (refuses r) e = refl
metadata_left G m serves e = sym e

module _ (G : Layout) (m : List ℕ) where
  pub remaining_metadata : (offset : ℕ) → m ≡ metadata_after G m (remaining G m offset)
  remaining_metadata offset = metadata_left G m (remaining_comes G m offset) refl

  pub copy_metadata : (offset : ℕ) (kind : Kind) (source : List ℕ) → m ≡ metadata_after G m (copy G m offset kind source)
  copy_metadata offset kind source = metadata_left G m (copy_comes G m offset kind source) refl

  pub read_metadata : (offset count page_bytes : ℕ) → m ≡ metadata_after G m (read G m offset count page_bytes)
  read_metadata offset count page_bytes = metadata_left G m (read_comes G m offset count page_bytes) refl

  module _ (h : List ℕ) where
    -- measuring writes no bytes
    pub remaining_heap : (offset : ℕ) → h ≡ heap_after G m h (remaining G m offset)
    remaining_heap offset = heap_left G m h (remaining_comes G m offset) (take-append-drop offset h)

    pub read_heap : (offset count page_bytes : ℕ) → h ≡ heap_after G m h (read G m offset count page_bytes)
    read_heap offset count page_bytes = heap_left G m h (read_comes G m offset count page_bytes) refl
