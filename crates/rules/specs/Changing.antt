-- What calls change: nothing, where they are without effect; and of a heap, which bytes a request may change.
use Rattle.std.specs.Prelude.{ℕ, ◌+◌, ◌≤◌, ◌<◌, ◌≡◌, List, length, get_or, Some, None}
use Rattle.geometry.specs.declared.Layout.{Layout}
use Rattle.geometry.specs.Layout.{slots, locate}
use Rattle.request.specs.declared.Request.TheVariants.{Allocate, Free, Remaining, Copy, Read}
use Rattle.request.specs.Parse.{Parsed}
use Rattle.view.specs.View.{no_view}
use Rattle.rules.specs.Object.{space}
use Rattle.rules.specs.Call.{Call}

-- ---- calls

-- a call on metadata m without effect: it tells nothing but its number, changes no byte, and shows nothing
pub record Idle (m : List ℕ) (c : Call) : Type 0 where
  pub value : c.answer.value ≡ 0
  pub metadata : c.metadata ≡ m
  pub heap : (h : List ℕ) → c.heap h ≡ h
  pub view : c.view ≡ no_view

-- one that has none where it is refused
abbrev pub Changeless : List ℕ → Call → Type 0
Changeless m c = (c.answer.number ≡ 0 → ⊥) → Idle m c

-- ---- bytes of a heap

-- byte x lies in a slot; it lies in the slot that an offset lies in
abbrev pub InSlot : Layout → ℕ → Type 0
InSlot G x = (locate G x).slot < slots G (locate G x).class

abbrev pub SameSlot : Layout → ℕ → ℕ → Type 0
SameSlot G offset x = ((locate G x).class ≡ (locate G offset).class) × ((locate G x).slot ≡ (locate G offset).slot)

-- it lies in the live object that an offset lies in, and not before the offset; where nothing is live, no byte does
abbrev pub InRest : Layout → List ℕ → ℕ → ℕ → Type 0
InRest G m offset x = (offset ≤ x) × (x < offset + space G m offset)

-- a request may change it: a free all bytes of the live object that starts at its offset, a copy those from its offset
-- to the end of the live object there, any other request none
abbrev pub MayChange : Layout → List ℕ → Parsed → ℕ → Type 0
MayChange G m (Some (Allocate size)) x = ⊥
MayChange G m (Some (Free offset)) x = ((locate G offset).into ≡ 0) × InRest G m offset x
MayChange G m (Some (Remaining offset)) x = ⊥
MayChange G m (Some (Copy offset kind)) x = InRest G m offset x
MayChange G m (Some (Read offset count)) x = ⊥
MayChange G m None x = ⊥

-- a heap h afterwards: as long as it was, and each byte as it was, but for those that may have changed
pub record KeptBut (Changes : ℕ → Type 0) (h after : List ℕ) : Type 0 where
  pub size : length after ≡ length h
  pub bytes : (x : ℕ) → (Changes x → ⊥) → get_or after x 0 ≡ get_or h x 0
