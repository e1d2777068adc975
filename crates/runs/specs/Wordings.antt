-- The theorems' words once more, each said another way: by places in lists, and by filters. proofs/Wordings.antt proves
-- that the two ways say the same.
use Rattle.std.specs.Prelude.{ℕ, ◌+◌, ◌/◌, ◌%◌, ◌^◌, ◌≤◌, ◌<◌, ◌≡◌, Bool, true, false, cond, ◌&&◌, ◌||◌, ◌⊎◌, eqb, length, get_or, Some, None}
use Rattle.std.proofs.Math.Option.{some}
use mathlib.Core.List.{List, [], ◌∷◌, ◌++◌, filter}
use mathlib.Core.Logic.Dec
use Rattle.std.proofs.Math.Decide.{ℕ_discrete, dec_le, dec_lt}
use Rattle.std.proofs.Math.ListN.{get_elem?}
use Rattle.search.specs.Those.{those}
use Rattle.request.specs.declared.Request.TheVariants.{Allocate, Free, Remaining, Copy, Read}
use Rattle.request.specs.Parse.{Parsed}
use Rattle.geometry.specs.declared.Layout.{Layout}
use Rattle.geometry.specs.Layout.{classes, class_of, slot_size, slots, bitmap_at}
use Rattle.answer.specs.declared.Refusal.{Refusal}
use Rattle.answer.specs.Reply.{number_of}
use Rattle.metadata.specs.Metadata.{count_of}
use Rattle.runs.specs.Run.{Entry, Event}
use Rattle.runs.specs.Pair.{Served, Pair}
use Rattle.runs.specs.Live.{Object}

-- a list has x at place i
abbrev pub At : {A : Type 0} → List A → ℕ → A → Type 0
At xs i x = get_elem? xs i ≡ some x

-- ---- objects: Sound, holding, of_class

-- where an object ends
abbrev pub end_of : Layout → Object → ℕ
end_of G o = o.start + slot_size G o.class

-- byte x lies in an object
abbrev pub Has : Layout → ℕ → Object → Type 0
Has G x o = (o.start ≤ x) × (x < end_of G o)

abbrev pub having : Layout → ℕ → List Object → List Object
having G x os = filter {p = Has G x} (λ o. Dec.and (dec_le o.start x) (dec_lt x (end_of G o))) os

abbrev pub in_class : ℕ → List Object → List Object
in_class c os = filter {p = λ (o : Object). o.class ≡ c} (λ o. ℕ_discrete o.class c) os

-- one of two objects ends before the other starts, or where it starts
abbrev pub Disjoint : Layout → Object → Object → Type 0
Disjoint G o p = (end_of G o ≤ p.start) ⊎ (end_of G p ≤ o.start)

-- no two objects overlap, by their places in the list, and no class has more than N/2
pub record SoundByPlaces (G : Layout) (os : List Object) : Type 0 where
  pub apart : (i j : ℕ) (o p : Object) → i < j → At os i o → At os j p → Disjoint G o p
  pub half : (c : ℕ) → length (in_class c os) ≤ slots G c / 2

-- ---- counts: Counted

-- the slots of class c whose bit is 1: for slot i bit i mod 8 of byte i/8 from the bitmap's start on
abbrev pub set_slots : Layout → List ℕ → ℕ → List ℕ
set_slots G m c = those (λ i. eqb (get_or m (bitmap_at G c + i / 8) 0 / 2 ^ (i % 8) % 2) 1) 0 (slots G c)

-- each class's live count is the length of the list of its set slots, and of that of its objects
pub record CountedByLists (G : Layout) (m : List ℕ) (os : List Object) : Type 0 where
  pub set : (c : ℕ) → c < classes → count_of c m ≡ length (set_slots G m c)
  pub objects : (c : ℕ) → c < classes → count_of c m ≡ length (in_class c os)

-- ---- runs: HeapsOfLength, Never, PairOff, Pair

abbrev pub HeapsAllOf : ℕ → List Entry → Type 0
HeapsAllOf n es = (i : ℕ) (e : Entry) → At es i e → length e.heap ≡ n

abbrev pub NowhereIn : Refusal → List Event → Type 0
NowhereIn r past = (i : ℕ) (a : Event) → At past i a → a.answer.number ≡ number_of r → ⊥

abbrev pub PairByPlaces : Layout → List Event → List Event → Type 0
PairByPlaces G past other =
    (length past ≡ length other) × ((i : ℕ) (a b : Event) → At past i a → At other i b → Pair G a b)

-- all that a pair has in common
pub data Trait : Type 0 where
  allocates_in : (class : ℕ) → Trait
  frees_at : (offset : ℕ) → Trait
  measures : (value : ℕ) → Trait
  refused_with : (number : ℕ) → Trait

-- of a served event; no malformed request is served
abbrev pub served_trait : Layout → Parsed → ℕ → Trait
served_trait G (Some (Allocate size)) value = allocates_in (class_of G size)
served_trait G (Some (Free offset)) value = frees_at offset
served_trait G (Some (Remaining offset)) value = measures value
served_trait G (Some (Copy offset kind)) value = measures value
served_trait G (Some (Read offset count)) value = measures value
served_trait G None value = refused_with 0

unfoldable pub trait : Layout → Event → Trait
trait G a =
    cond (eqb a.answer.number 0) (served_trait G a.asked a.answer.value) (refused_with a.answer.number)

-- a malformed request is not served
abbrev pub Refuses : Event → Type 0
Refuses a = a.asked ≡ None → Served a → ⊥

-- ---- histories: live

-- an event makes an object: a served allocation in its class, whose value is its start
pub record Makes (G : Layout) (a : Event) (o : Object) : Type 0 where
  pub size : ℕ
  pub asked : a.asked ≡ Some (Allocate size)
  pub served : Served a
  pub starts : a.answer.value ≡ o.start
  pub class : class_of G size ≡ o.class

-- an event ends the objects that start at x: a served free there
pub record Frees (x : ℕ) (a : Event) : Type 0 where
  pub asked : a.asked ≡ Some (Free x)
  pub served : Served a

-- event i of a history makes an object, and no later event ends it
pub record LiveFrom (G : Layout) (past : List Event) (i : ℕ) (o : Object) : Type 0 where
  pub event : Event
  pub here : At past i event
  pub makes : Makes G event o
  pub kept : (j : ℕ) (a : Event) → i < j → At past j a → Frees o.start a → ⊥

-- the object that a request makes, if served
abbrev pub makes_of : Layout → Parsed → ℕ → List Object
makes_of G (Some (Allocate size)) value = record { start = value; class = class_of G size } ∷ []
makes_of G (Some (Free offset)) value = []
makes_of G (Some (Remaining offset)) value = []
makes_of G (Some (Copy offset kind)) value = []
makes_of G (Some (Read offset count)) value = []
makes_of G None value = []

-- whether a request frees at x, if served
abbrev pub asks_free : ℕ → Parsed → Bool
asks_free x (Some (Allocate size)) = false
asks_free x (Some (Free offset)) = eqb offset x
asks_free x (Some (Remaining offset)) = false
asks_free x (Some (Copy offset kind)) = false
asks_free x (Some (Read offset count)) = false
asks_free x None = false

-- the object that an event makes, if any, and whether an event ends the objects that start at x
abbrev pub made_by : Layout → Event → List Object
made_by G a = cond (eqb a.answer.number 0) (makes_of G a.asked a.answer.value) []

abbrev pub ends : ℕ → Event → Bool
ends x a = eqb a.answer.number 0 && asks_free x a.asked

-- whether some event of a history does
unfoldable pub is_freed : ℕ → List Event → Bool
is_freed x [] = false
is_freed x (a ∷ later) = ends x a || is_freed x later

-- those objects that no event of a history ends
unfoldable pub lasting : List Event → List Object → List Object
lasting past [] = []
lasting past (o ∷ os) = elim (is_freed o.start past) [ true ↦ lasting past os | false ↦ o ∷ lasting past os ]

-- each event's object, if the events after it do not end it; the last event's first
unfoldable pub lasts : Layout → List Event → List Object
lasts G [] = []
lasts G (a ∷ later) = lasts G later ++ lasting later (made_by G a)

-- of two events that leave live objects, these do not overlap, and no class has more than N/2
pub record SoundByEvents (G : Layout) (past : List Event) : Type 0 where
  pub apart : (i j : ℕ) (o p : Object) → i < j → LiveFrom G past i o → LiveFrom G past j p → Disjoint G o p
  pub half : (c : ℕ) → length (in_class c (lasts G past)) ≤ slots G c / 2
