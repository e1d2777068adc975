-- Live objects, from requests and answers alone.
use Rattle.std.specs.Prelude.{ℕ, ◌+◌, ◌*◌, ◌≤◌, ◌<◌, ◌≡◌, Bool, true, false, cond, ◌&&◌, List, [], ◌∷◌, leb, ltb, eqb, Some, None}
use Rattle.request.specs.declared.Request.TheVariants.{Allocate, Free, Remaining, Copy, Read}
use Rattle.request.specs.Parse.{Parsed}
use Rattle.geometry.specs.declared.Layout.{Layout}
use Rattle.geometry.specs.Layout.{classes, class_of, slot_size, slots}
use Rattle.bitmap.specs.Bitmap.{count_set}
use Rattle.answer.specs.declared.Refusal.{Refusal}
use Rattle.answer.specs.Reply.{number_of}
use Rattle.metadata.specs.Metadata.{count_of, bitmap_of}
use Rattle.runs.specs.Run.{Event}

-- an object takes as many bytes from its start on as a slot of its class has
pub record Object : Type 0 where
  pub start : ℕ
  pub class : ℕ

-- the objects that do not start at an offset
unfoldable pub without : ℕ → List Object → List Object
without offset [] = []
without offset (o ∷ os) = elim (eqb o.start offset) [ true ↦ without offset os | false ↦ o ∷ without offset os ]

-- a served allocation makes an object, and a served free ends what starts at its offset
abbrev pub served_after : Layout → List Object → Parsed → ℕ → List Object
served_after G os (Some (Allocate size)) value = record { start = value; class = class_of G size } ∷ os
served_after G os (Some (Free offset)) value = without offset os
served_after G os (Some (Remaining offset)) value = os
served_after G os (Some (Copy offset kind)) value = os
served_after G os (Some (Read offset count)) value = os
served_after G os None value = os

unfoldable pub objects_after : Layout → List Object → Event → List Object
objects_after G os a = cond (eqb a.answer.number 0) (served_after G os a.asked a.answer.value) os

-- what is live after a history, on top of the objects given
unfoldable pub live : Layout → List Object → List Event → List Object
live G os [] = os
live G os (a ∷ rest) = live G (objects_after G os a) rest

abbrev pub size_of : Layout → Object → ℕ
size_of G o = slot_size G o.class

-- whether byte x lies in an object, how many objects have it, and how many are of class c
abbrev pub has_byte : Layout → ℕ → Object → Bool
has_byte G x o = leb o.start x && ltb x (o.start + size_of G o)

unfoldable pub holding : Layout → ℕ → List Object → ℕ
holding G x [] = 0
holding G x (o ∷ os) = cond (has_byte G x o) 1 0 + holding G x os

unfoldable pub of_class : ℕ → List Object → ℕ
of_class c [] = 0
of_class c (o ∷ os) = cond (eqb o.class c) 1 0 + of_class c os

-- no byte lies in two objects, and no class is over half full
pub record Sound (G : Layout) (os : List Object) : Type 0 where
  pub apart : (x : ℕ) → holding G x os ≤ 1
  pub half : (c : ℕ) → 2 * of_class c os ≤ slots G c

-- each class's live count is the number of its set slots, and of its live objects
pub record Counted (G : Layout) (m : List ℕ) (os : List Object) : Type 0 where
  pub set : (c : ℕ) → c < classes → count_of c m ≡ count_set (bitmap_of G c m) (slots G c)
  pub objects : (c : ℕ) → c < classes → count_of c m ≡ of_class c os

-- a refusal that no request of a history is answered with
abbrev pub Never : Refusal → List Event → Type 0
Never r [] = Unit {0}
Never r (a ∷ rest) = (a.answer.number ≡ number_of r → ⊥) × Never r rest
