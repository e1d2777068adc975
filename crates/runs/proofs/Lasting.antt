-- An object is live exactly when some event of the history made it and no later one ended it.
use Rattle.std.specs.Prelude.{Some, None}
use Prim.Native.Nat.{ℕ, zero, suc, ◌+◌, ◌<◌}
use mathlib.Core.Path.{◌≡◌, refl, sym, ap, ◌∙◌}
use mathlib.Core.Bool.{Bool, true, false, true≢false, cond, ◌&&◌, ◌||◌}
use mathlib.Core.List.{List, [], ◌∷◌, ◌++◌, append_assoc, append-nil}
use mathlib.Core.Logic.{◌↔◌, ◌⊎◌, inl, inr}
use native.Mathlib.Omega.{arith}
use lib.Dec.{eqb}
use lib.ListN.{length}
use borrow.Author.Tests.{eqb-true, eqb-false, eq-eqb, ne_eqb}
use Rattle.request.specs.declared.Request.TheVariants.{Allocate, Free, Remaining, Copy, Read}
use Rattle.request.specs.Parse.{Parsed}
use Rattle.geometry.specs.declared.Layout.{Layout}
use Rattle.geometry.specs.Layout.{class_of}
use Rattle.runs.specs.Run.{Event}
use Rattle.runs.specs.Live.{Object, without, served_after, objects_after, live, Sound}
use Rattle.runs.specs.Wordings.{At, Disjoint}
use Rattle.runs.specs.Wordings.{Makes, Frees, LiveFrom, makes_of, asks_free, made_by, ends, is_freed, lasting, lasts, SoundByEvents}
use Rattle.runs.proofs.Objects.{without_cons}
use Rattle.runs.proofs.Wordings.{sound_places}
use Rattle.runs.proofs.Places.{at_nowhere, at_first, at_below, at_left, at_right, at_either}

module _ (past : List Event) (o : Object) (os : List Object) where
  lasting_ended : is_freed o.start past ≡ true → lasting past (o ∷ os) ≡ lasting past os
  unfolding lasting
  lasting_ended e = rw (e, lasting)

  lasting_kept : is_freed o.start past ≡ false → lasting past (o ∷ os) ≡ o ∷ lasting past os
  unfolding lasting
  lasting_kept e = rw (e, lasting)

  -- what lasts of the first, and of the others
  lasting_cons : lasting past (o ∷ os) ≡ lasting past (o ∷ []) ++ lasting past os
  unfolding lasting
  lasting_cons = go (is_freed o.start past) refl
    where
      go : (t : Bool) → is_freed o.start past ≡ t → lasting past (o ∷ os) ≡ lasting past (o ∷ []) ++ lasting past os
      go true e = rw (e, lasting)
      go false e = rw (e, lasting)

-- without events all last
lasting_all : (os : List Object) → lasting [] os ≡ os
unfolding lasting is_freed
lasting_all [] = refl
lasting_all (o ∷ os) = rw (lasting_all os)

module _ (a : Event) (later : List Event) where
  freed_cons : (x : ℕ) {t : Bool} → ends x a ≡ t → is_freed x (a ∷ later) ≡ t || is_freed x later
  unfolding is_freed
  freed_cons x e = rw e

  -- an object that the event does not end lasts as it does after it
  lasting_beside : (o : Object) (os os' : List Object) → ends o.start a ≡ false → lasting later os' ≡ lasting (a ∷ later) os
      → lasting later (o ∷ os') ≡ lasting (a ∷ later) (o ∷ os)
  lasting_beside o os os' h rest = go (is_freed o.start later) refl
    where
      go : (t : Bool) → is_freed o.start later ≡ t → lasting later (o ∷ os') ≡ lasting (a ∷ later) (o ∷ os)
      go true e = lasting_ended later o os' e ∙ rest ∙ sym (lasting_ended (a ∷ later) o os (freed_cons o.start h ∙ e))
      go false e =
          lasting_kept later o os' e ∙ ap (λ (l : List Object). o ∷ l) rest ∙ sym (lasting_kept (a ∷ later) o os (freed_cons o.start h ∙ e))

  -- so an event that ends nothing may be left out, and a free takes away what starts there
  lasting_skip : ((x : ℕ) → ends x a ≡ false) → (os : List Object) → lasting later os ≡ lasting (a ∷ later) os
  unfolding lasting
  lasting_skip h [] = refl
  lasting_skip h (o ∷ os) = lasting_beside o os os (h o.start) (lasting_skip h os)

  lasting_free : (y : ℕ) → ((x : ℕ) → ends x a ≡ eqb y x) → (os : List Object) → lasting later (without y os) ≡ lasting (a ∷ later) os
  unfolding lasting without
  lasting_free y h [] = refl
  lasting_free y h (o ∷ os) =
      let rest = lasting_free y h os in
      without_cons y o os (λ l. lasting later l ≡ lasting (a ∷ later) (o ∷ os))
      (λ e. rest ∙ sym (lasting_ended (a ∷ later) o os (freed_cons o.start (h o.start ∙ eq-eqb y o.start (sym (eqb-true o.start y e))))))
      (λ e. lasting_beside o os (without y os) (h o.start ∙ ne_eqb y o.start (λ q. eqb-false o.start y e (sym q))) rest)

  -- what lasts of the objects after an event: its own, and of those before it
  lasting_after : (G : Layout) (os : List Object) → lasting later (objects_after G os a) ≡ lasting later (made_by G a) ++ lasting (a ∷ later) os
  unfolding objects_after lasting
  lasting_after G os = go (eqb a.answer.number 0) a.asked refl refl
    where
      Goal : Bool → Parsed → Type 0
      Goal t p = lasting later (cond t (served_after G os p a.answer.value) os)
          ≡ lasting later (cond t (makes_of G p a.answer.value) []) ++ lasting (a ∷ later) os

      go : (t : Bool) (p : Parsed) → eqb a.answer.number 0 ≡ t → a.asked ≡ p → Goal t p
      go true (Some (Allocate size)) e f =
          let made : List Object = makes_of G (Some (Allocate size)) a.answer.value in
          lasting_cons later _ os ∙ ap (λ (l : List Object). lasting later made ++ l) (lasting_skip (λ x. rw (e, f)) os)
      go true (Some (Free offset)) e f = lasting_free offset (λ x. rw (e, f)) os
      go true (Some (Remaining offset)) e f = lasting_skip (λ x. rw (e, f)) os
      go true (Some (Copy offset kind)) e f = lasting_skip (λ x. rw (e, f)) os
      go true (Some (Read offset count)) e f = lasting_skip (λ x. rw (e, f)) os
      go true None e f = lasting_skip (λ x. rw (e, f)) os
      go false p e f = lasting_skip (λ x. rw e) os

module _ (G : Layout) where
  -- on top of objects that were there
  live_lasts_on : (past : List Event) (os : List Object) → live G os past ≡ lasts G past ++ lasting past os
  unfolding live lasts
  live_lasts_on [] os = sym (lasting_all os)
  live_lasts_on (a ∷ later) os =
      live_lasts_on later (objects_after G os a)
      ∙ ap (λ (l : List Object). lasts G later ++ l) (lasting_after a later G os)
      ∙ sym (append_assoc (lasts G later) (lasting later (made_by G a)) (lasting (a ∷ later) os))

  -- the live objects are those of the events that are not ended
  pub live_lasts : (past : List Event) → live G [] past ≡ lasts G past
  unfolding lasting
  live_lasts past = live_lasts_on past [] ∙ append-nil (lasts G past)

-- ---- live objects, by events' places

-- an event ends what starts at x where it is a served free there
frees_ends : {x : ℕ} {a : Event} → Frees x a → ends x a ≡ true
frees_ends {x} {a} f = rw (f.served, f.asked) (eq-eqb x x refl)

ends_frees : (x : ℕ) (a : Event) → ends x a ≡ true → Frees x a
ends_frees x a = go (eqb a.answer.number 0) a.asked refl refl
  where
    go : (t : Bool) (p : Parsed) → eqb a.answer.number 0 ≡ t → a.asked ≡ p → t && asks_free x p ≡ true → Frees x a
    go true (Some (Allocate size)) e f h = absurd (true≢false (sym h))
    go true (Some (Free offset)) e f h =
        record { asked = f ∙ ap (λ (y : ℕ). Some (Free y)) (eqb-true offset x h); served = eqb-true a.answer.number 0 e }
    go true (Some (Remaining offset)) e f h = absurd (true≢false (sym h))
    go true (Some (Copy offset kind)) e f h = absurd (true≢false (sym h))
    go true (Some (Read offset count)) e f h = absurd (true≢false (sym h))
    go true None e f h = absurd (true≢false (sym h))
    go false p e f h = absurd (true≢false (sym h))

-- and so a history does where one of its events is
abbrev NotFreed : ℕ → List Event → Type 0
NotFreed x past = (j : ℕ) (a : Event) → At past j a → Frees x a → ⊥

freed_nowhere : (x : ℕ) (past : List Event) → is_freed x past ≡ false → NotFreed x past
freed_nowhere x [] e j b q f = at_nowhere q
freed_nowhere x (a ∷ later) e j b q f = go (ends x a) refl j q (freed_nowhere x later)
  where
    go : (t : Bool) → ends x a ≡ t → (j : ℕ) → At (a ∷ later) j b → (is_freed x later ≡ false → NotFreed x later) → ⊥
    go true h j q rest = true≢false (sym (freed_cons a later x h) ∙ e)
    go false h zero q rest = true≢false (sym (rw (at_first q) (frees_ends f)) ∙ h)
    go false h (suc j) q rest = rest (sym (freed_cons a later x h) ∙ e) j b q f

nowhere_freed : (x : ℕ) (past : List Event) → NotFreed x past → is_freed x past ≡ false
unfolding is_freed
nowhere_freed x [] h = refl
nowhere_freed x (a ∷ later) h = go (ends x a) refl (nowhere_freed x later (λ j. h (suc j)))
  where
    go : (t : Bool) → ends x a ≡ t → is_freed x later ≡ false → is_freed x (a ∷ later) ≡ false
    go true q rest = absurd (h 0 a refl (ends_frees x a q))
    go false q rest = freed_cons a later x q ∙ rest

-- of one object nothing lasts but itself
lasting_one : (past : List Event) (p o : Object) (k : ℕ) → At (lasting past (p ∷ [])) k o → (k ≡ 0) × (p ≡ o) × (is_freed p.start past ≡ false)
unfolding lasting
lasting_one past p o k = go (is_freed p.start past) refl k
  where
    go : (t : Bool) → is_freed p.start past ≡ t → (k : ℕ) → At (lasting past (p ∷ [])) k o → (k ≡ 0) × (p ≡ o) × (is_freed p.start past ≡ false)
    go true e k q = absurd (at_nowhere (rw (lasting_ended past p [] e) at q))
    go false e zero q = (refl, at_first (rw (lasting_kept past p [] e) at q), e)
    go false e (suc k) q = absurd (at_nowhere (rw (lasting_kept past p [] e) at q))

module _ (G : Layout) (a : Event) (later : List Event) where
  -- the object that an event makes, and that is not ended
  makes_lasts : (o : Object) → Makes G a o → NotFreed o.start later → lasting later (made_by G a) ≡ o ∷ []
  unfolding lasting
  makes_lasts o m h =
      let made : made_by G a ≡ o ∷ [] = rw (m.served, m.asked) (λ i. record { start = m.starts i; class = m.class i } ∷ []) in
      rw (made, lasting_kept later o [] (nowhere_freed o.start later h))

  lasts_makes : (k : ℕ) (o : Object) → At (lasting later (made_by G a)) k o → (k ≡ 0) × Makes G a o × NotFreed o.start later
  unfolding lasting
  lasts_makes k o = go (eqb a.answer.number 0) a.asked refl refl
    where
      go : (t : Bool) (p : Parsed) → eqb a.answer.number 0 ≡ t → a.asked ≡ p
          → At (lasting later (cond t (makes_of G p a.answer.value) [])) k o → (k ≡ 0) × Makes G a o × NotFreed o.start later
      go true (Some (Allocate size)) e f q =
          let p : Object = record { start = a.answer.value; class = class_of G size } in
          let (first, same, kept) = lasting_one later p o k q in
          let makes : Makes G a o = record {
            size = size;
            asked = f;
            served = eqb-true a.answer.number 0 e;
            starts = ap (λ (r : Object). r.start) same;
            class = ap (λ (r : Object). r.class) same;
          } in
          (first, makes, freed_nowhere o.start later (rw (ap (λ (r : Object). r.start) same) at kept))
      go true (Some (Free offset)) e f q = absurd (at_nowhere q)
      go true (Some (Remaining offset)) e f q = absurd (at_nowhere q)
      go true (Some (Copy offset kind)) e f q = absurd (at_nowhere q)
      go true (Some (Read offset count)) e f q = absurd (at_nowhere q)
      go true None e f q = absurd (at_nowhere q)
      go false p e f q = absurd (at_nowhere q)

  -- an event's object that is not ended, and those of the events after it
  live_now : (o : Object) → Makes G a o → NotFreed o.start later → LiveFrom G (a ∷ later) 0 o
  live_now o m h = record { event = a; here = refl; makes = m; kept = kept }
    where
      kept : (j : ℕ) (b : Event) → 0 < j → At (a ∷ later) j b → Frees o.start b → ⊥
      kept zero b l q = absurd (omega arith)
      kept (suc j) b l q = h j b q

  live_later : (i : ℕ) (o : Object) → LiveFrom G later i o → LiveFrom G (a ∷ later) (suc i) o
  live_later i o l = record { event = l.event; here = l.here; makes = l.makes; kept = kept }
    where
      kept : (j : ℕ) (b : Event) → suc i < j → At (a ∷ later) j b → Frees o.start b → ⊥
      kept zero b h q = absurd (omega arith)
      kept (suc j) b h q = l.kept j b (omega arith) q

  now_live : (o : Object) → LiveFrom G (a ∷ later) 0 o → Makes G a o × NotFreed o.start later
  now_live o l = (rw (at_first l.here) l.makes, λ j b q. l.kept (suc j) b (omega arith) q)

  later_live : (i : ℕ) (o : Object) → LiveFrom G (a ∷ later) (suc i) o → LiveFrom G later i o
  later_live i o l = record { event = l.event; here = l.here; makes = l.makes; kept = λ j b h q. l.kept (suc j) b (omega arith) q }

module _ (G : Layout) where
  -- each object that lasts is one that an event leaves live, and the other way
  lasts_from : (past : List Event) (k : ℕ) (o : Object) → At (lasts G past) k o → (i : ℕ) × LiveFrom G past i o
  unfolding lasts
  lasts_from [] k o q = absurd (at_nowhere q)
  lasts_from (a ∷ later) k o q = go (at_either (lasts G later) (lasting later (made_by G a)) k q) (lasts_from later k o)
    where
      go : At (lasts G later) k o ⊎ ((l : ℕ) × (k ≡ length (lasts G later) + l) × At (lasting later (made_by G a)) l o)
          → (At (lasts G later) k o → (i : ℕ) × LiveFrom G later i o) → (i : ℕ) × LiveFrom G (a ∷ later) i o
      go (inl e) rest = let (i, l) = rest e in (suc i, live_later G a later i o l)
      go (inr (l, same, e)) rest = let (first, makes, kept) = lasts_makes G a later l o e in (0, live_now G a later o makes kept)

  from_lasts : (past : List Event) (i : ℕ) (o : Object) → LiveFrom G past i o → (k : ℕ) × At (lasts G past) k o
  unfolding lasts
  from_lasts [] i o l = absurd (at_nowhere l.here)
  from_lasts (a ∷ later) zero o l =
      let (makes, kept) = now_live G a later o l in
      let last : At (lasting later (made_by G a)) 0 o = rw (makes_lasts G a later o makes kept) refl in
      (length (lasts G later) + 0, at_right (lasts G later) (lasting later (made_by G a)) 0 last)
  from_lasts (a ∷ later) (suc i) o l =
      let (k, e) = from_lasts later i o (later_live G a later i o l) in
      (k, at_left (lasts G later) (lasting later (made_by G a)) k e)

  -- an object is live exactly when some event made it and no later one ended it
  pub live_places : (past : List Event) (o : Object) → ((k : ℕ) × At (live G [] past) k o) ↔ ((i : ℕ) × LiveFrom G past i o)
  live_places past o = rw (live_lasts G past) (λ (k, e). lasts_from past k o e, λ (i, l). from_lasts past i o l)

  -- ---- two live objects

  swapped : (o p : Object) → Disjoint G o p → Disjoint G p o
  swapped o p (inl l) = inr l
  swapped o p (inr l) = inl l

  abbrev ApartIn : List Object → Type 0
  ApartIn os = (i j : ℕ) (o p : Object) → i < j → At os i o → At os j p → Disjoint G o p

  abbrev ApartFrom : List Event → Type 0
  ApartFrom past = (i j : ℕ) (o p : Object) → i < j → LiveFrom G past i o → LiveFrom G past j p → Disjoint G o p

  apart_events : (past : List Event) → ApartIn (lasts G past) → ApartFrom past
  unfolding lasts
  apart_events [] h i j o p l e f = absurd (at_nowhere e.here)
  apart_events (a ∷ later) h i zero o p l e f = absurd (omega arith)
  apart_events (a ∷ later) h zero (suc j) o p l e f =
      let (makes, kept) = now_live G a later o e in
      let last : At (lasting later (made_by G a)) 0 o = rw (makes_lasts G a later o makes kept) refl in
      let (k, q) = from_lasts later j p (later_live G a later j p f) in
      swapped p o (h k (length (lasts G later) + 0) p o (omega (arith, at_below (lasts G later) k q))
      (at_left (lasts G later) (lasting later (made_by G a)) k q)
      (at_right (lasts G later) (lasting later (made_by G a)) 0 last))
  apart_events (a ∷ later) h (suc i) (suc j) o p l e f =
      apart_events later
      (λ k n q r m d t. h k n q r m (at_left (lasts G later) (lasting later (made_by G a)) k d) (at_left (lasts G later) (lasting later (made_by G a)) n t))
      i j o p (omega arith) (later_live G a later i o e) (later_live G a later j p f)

  events_apart : (past : List Event) → ApartFrom past → ApartIn (lasts G past)
  unfolding lasts
  events_apart [] h k n o p l e f = absurd (at_nowhere e)
  events_apart (a ∷ later) h k n o p l e f =
      go (at_either (lasts G later) (lasting later (made_by G a)) k e) (at_either (lasts G later) (lasting later (made_by G a)) n f)
      (events_apart later (λ i j q r m d t. h (suc i) (suc j) q r (omega arith) (live_later G a later i q d) (live_later G a later j r t)))
    where
      go : At (lasts G later) k o ⊎ ((x : ℕ) × (k ≡ length (lasts G later) + x) × At (lasting later (made_by G a)) x o)
          → At (lasts G later) n p ⊎ ((x : ℕ) × (n ≡ length (lasts G later) + x) × At (lasting later (made_by G a)) x p)
          → ApartIn (lasts G later) → Disjoint G o p
      go (inl q) (inl r) rest = rest k n o p l q r
      go (inl q) (inr (x, same, r)) rest =
          let (first, makes, kept) = lasts_makes G a later x p r in
          let (i, from) = lasts_from later k o q in
          swapped p o (h 0 (suc i) p o (omega arith) (live_now G a later p makes kept) (live_later G a later i o from))
      go (inr (x, same, q)) (inl r) rest = absurd (omega (arith, at_below (lasts G later) n r))
      go (inr (x, same, q)) (inr (y, same', r)) rest =
          let (first, makes, kept) = lasts_makes G a later x o q in
          let (first', makes', kept') = lasts_makes G a later y p r in
          absurd (omega arith)

  -- the live objects of a history are sound exactly when those are that its events leave live
  pub sound_events : (past : List Event) → Sound G (live G [] past) ↔ SoundByEvents G past
  sound_events past = rw (live_lasts G past) (to, from)
    where
      to : Sound G (lasts G past) → SoundByEvents G past
      to s = let t = (sound_places G (lasts G past)).0 s in record { apart = apart_events past t.apart; half = t.half }

      from : SoundByEvents G past → Sound G (lasts G past)
      from s = (sound_places G (lasts G past)).1 (record { apart = events_apart past s.apart; half = s.half })
