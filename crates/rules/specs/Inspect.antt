-- Inspection: which clear slots no longer hold the canary throughout. It reads the heap, so it is no request.
use Rattle.std.specs.Prelude.{ℕ, Bool, not, ◌&&◌, List, [], ◌∷◌, length, take, drop, ltb}
use Rattle.search.specs.Those.{those}
use Rattle.writing.specs.Overwrite.{overwrite}
use Rattle.geometry.specs.declared.Layout.{Layout}
use Rattle.geometry.specs.declared.Location.{Location}
use Rattle.geometry.specs.Layout.{heap_length, slot_size, locate}
use Rattle.answer.specs.declared.Refusal.{Refusal}
use Rattle.answer.specs.declared.Refusal.TheVariants.{ListTooShort}
use Rattle.answer.specs.declared.Reply.{Reply}
use Rattle.answer.specs.Reply.{served, refused_by}
use Rattle.answer.specs.Checks.{◌when◌, checked}
use Rattle.metadata.specs.Metadata.{canary_of}
use Rattle.judge.specs.Judge.{once_laid, admit}
use Rattle.canary.specs.Canary.{has_damage}
use Rattle.rules.specs.Object.{is_live, is_start}

-- a clear slot begins at offset x, and is damaged
abbrev pub is_hit : Layout → List ℕ → List ℕ → ℕ → Bool
is_hit G m h x =
    let l : Location = locate G x in
    is_start G l && not (is_live G m l) && has_damage (canary_of m) (take (slot_size G l.class) (drop x h))

-- the offsets of all such slots, rising
abbrev pub hits : Layout → List ℕ → List ℕ → List ℕ
hits G m h = those (is_hit G m h) 0 (heap_length G)

-- an inspection's answer, and what it leaves in the list that it was lent
pub record Inspection : Type 0 where
  pub answer : Reply
  pub list : List ℕ

abbrev pub unlisted : List ℕ → Refusal → Inspection
unlisted list r = record { answer = refused_by r; list = list }

-- the offsets at the front, and how many
abbrev pub listed : List ℕ → List ℕ → Inspection
listed list offsets = record { answer = served (length offsets); list = overwrite list 0 offsets }

-- all of them, or none
abbrev pub listed_whole : List ℕ → List ℕ → Inspection
listed_whole list offsets =
    checked (unlisted list) (ListTooShort when ltb (length list) (length offsets) ∷ []) (listed list offsets)

-- it goes by what requests go by
unfoldable pub inspection : List ℕ → List ℕ → List ℕ → Inspection
inspection h m list = once_laid (unlisted list) (λ G. listed_whole list (hits G m h)) (admit (length h) m)
