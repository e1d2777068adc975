-- All slots of a heap filled, class by class.
use Prim.Native.Nat.{ℕ, min, ◌+◌, ◌-◌, ◌*◌, ◌%◌, ◌<◌, ◌≤◌}
use mathlib.Core.Path.{◌≡◌, sym, ap, ◌∙◌}
use mathlib.Core.Bool.{cond}
use mathlib.Core.List.{List, ◌++◌}
use native.Mathlib.Nat.{zero-add, mod-mod_of_dvd, dvd_of_mod-eq-zero}
use native.Mathlib.Decide.{dec_lt, ℕ_discrete}
use native.Mathlib.Omega.{arith}
use borrow.Author.Tests.{lt-ltb, le-ltb}
use lib.Dec.{ltb}
use lib.ListN.{length, take, drop, get_or, length-drop}
use lib.Seq.{length-take-le, ext_get_or}
use Rattle.words.specs.Word.{bytes_of}
use Rattle.search.specs.Tabulate.{tabulate}
use Rattle.search.proofs.Tabulate.{tabulate_length, tabulate_at, tabulate_moved}
use Rattle.writing.specs.Overwrite.{overwrite}
use Rattle.writing.proofs.Writing.{overwrite_length}
use Rattle.writing.proofs.Parts.{at_written, at_before, at_after}
use Rattle.geometry.specs.declared.Layout.{Layout}
use Rattle.geometry.specs.Layout.{classes, slot_size, slots, locate}
use Rattle.geometry.proofs.Geometry.{slot_size_whole}
use Rattle.geometry.proofs.Slots.{slots_class, slots_hold, slots_held}
use Rattle.canary.specs.Canary.{canary_byte, filled, filled_byte, filled_heap}

module _ (G : Layout) (canary : ℕ) (h : List ℕ) where
  -- the slots of the classes before c are filled
  abbrev partly : ℕ → ℕ → ℕ
  partly c x = cond (ltb (locate G x).class c) (filled_byte G canary h x) (get_or h x 0)

  abbrev pub Partly : ℕ → List ℕ → Type 0
  Partly c now = now ≡ tabulate (partly c) 0 (length h)

  byte_filled : (c x : ℕ) → (locate G x).class < c → partly c x ≡ filled_byte G canary h x
  byte_filled c x l = rw (lt-ltb (locate G x).class c l)

  byte_left : (c x : ℕ) → c ≤ (locate G x).class → partly c x ≡ get_or h x 0
  byte_left c x l = rw (le-ltb (locate G x).class c l)

  -- in a slot, and in none
  byte_in : (x : ℕ) → (locate G x).slot < slots G (locate G x).class → filled_byte G canary h x ≡ canary_byte canary (locate G x).into
  byte_in x l = rw (lt-ltb (locate G x).slot (slots G (locate G x).class) l)

  byte_kept : (x : ℕ) → slots G (locate G x).class ≤ (locate G x).slot → filled_byte G canary h x ≡ get_or h x 0
  byte_kept x l = rw (le-ltb (locate G x).slot (slots G (locate G x).class) l)

  pub partly_length : (c : ℕ) {now : List ℕ} → Partly c now → length now ≡ length h
  partly_length c so = ap length so ∙ tabulate_length (partly c) 0 (length h)

  pub partly_none : Partly 0 h
  partly_none =
      ext_get_or 0 h (tabulate (partly 0) 0 (length h)) (sym (tabulate_length (partly 0) 0 (length h)))
      (λ x l. sym (tabulate_at (partly 0) 0 (length h) x l ∙ byte_left 0 x (omega arith)))

  -- no slots lie past the last class
  pub partly_all : (c : ℕ) {now : List ℕ} → classes ≤ c → Partly c now → now ≡ filled_heap G canary h
  partly_all c l so = so ∙ tabulate_moved (partly c) (filled_byte G canary h) 0 0 (length h) (λ x u. rw zero-add (byte x))
    where
      byte : (x : ℕ) → partly c x ≡ filled_byte G canary h x
      byte x = elim (dec_lt (locate G x).class c) [
        | yes k ↦ byte_filled c x k
        | no k ↦ byte_left c x (omega arith) ∙ sym (byte_kept x (elim (dec_lt (locate G x).slot (slots G (locate G x).class)) [
          | yes p ↦ absurd (omega (arith, slots_class G (locate G x).class (locate G x).slot p))
          | no p ↦ omega arith
        ]))
      ]

  -- a class more: it is filled from its first slot to the end of its last
  module _ (c : ℕ) {now : List ℕ} (so : Partly c now) {start end : ℕ}
      (from : start ≡ min (c * G.region) (length now)) (to : end ≡ min (start + slots G c * slot_size G c) (length now)) where
    abbrev part : List ℕ
    part = filled canary (end - start)

    room : start + length part ≡ end
    room = rw tabulate_length (omega arith)

    -- a byte of these slots, and one elsewhere
    here : (x : ℕ) → x < length h → start ≤ x → x < end → get_or (overwrite now start part) x 0 ≡ partly (c + 1) x
    here x l a b =
        let k = partly_length c so in
        let first : start ≡ c * G.region = omega (arith, from) in
        let (class, slot, into) = slots_hold G c x (omega (arith, first)) (omega (arith, first, to)) in
        let begun : x - start ≡ x % G.region = omega (arith, into, first) in
        let whole : (locate G x).into % 4 ≡ (x - start) % 4 =
        mod-mod_of_dvd 4 (x % G.region) (dvd_of_mod-eq-zero 4 (slot_size_whole G (locate G x).class)) ∙ rw begun in
        at_written now start part (omega (arith, room)) x 0 a (omega (arith, room))
        ∙ tabulate_at (canary_byte canary) 0 (end - start) (x - start) (omega arith)
        ∙ sym (byte_filled (c + 1) x (omega arith) ∙ byte_in x slot ∙ ap (λ (i : ℕ). get_or (bytes_of canary) i 0) whole)

    elsewhere : (x : ℕ) → x < length h → ((start ≤ x) × (x < end) → ⊥) → partly c x ≡ partly (c + 1) x
    elsewhere x l f = elim (dec_lt (locate G x).class c) [
      | yes p ↦ byte_filled c x p ∙ sym (byte_filled (c + 1) x (omega arith))
      | no p ↦ byte_left c x (omega arith) ∙ sym (elim (ℕ_discrete (locate G x).class c) [
        | yes q ↦ byte_filled (c + 1) x (omega arith) ∙ byte_kept x (elim (dec_lt (locate G x).slot (slots G (locate G x).class)) [
          | yes r ↦
              let (low, high) = slots_held G c x q r in
              let k = partly_length c so in
              absurd (f (omega arith, omega (arith, to)))
          | no r ↦ omega arith
        ])
        | no q ↦ byte_left (c + 1) x (omega arith)
      ])
    ]

    pub partly_more : Partly (c + 1) (overwrite now start part)
    partly_more =
        ext_get_or 0 (overwrite now start part) (tabulate (partly (c + 1)) 0 (length h)) (size ∙ sym (tabulate_length (partly (c + 1)) 0 (length h)))
        (λ x l. byte x (omega (arith, size)) ∙ sym (tabulate_at (partly (c + 1)) 0 (length h) x (omega (arith, size))))
      where
        size : length (overwrite now start part) ≡ length h
        size = overwrite_length now start part (omega (arith, room)) ∙ partly_length c so

        was : (x : ℕ) → x < length h → get_or now x 0 ≡ partly c x
        was x l = rw so (tabulate_at (partly c) 0 (length h) x l)

        byte : (x : ℕ) → x < length h → get_or (overwrite now start part) x 0 ≡ partly (c + 1) x
        byte x l = elim (dec_lt x start) [
          | yes p ↦ at_before now start part (omega (arith, room)) x 0 p ∙ was x l ∙ elsewhere x l (λ (a, b). omega arith)
          | no p ↦ elim (dec_lt x end) [
            | yes q ↦ here x l (omega arith) q
            | no q ↦ at_after now start part (omega (arith, room)) x 0 (omega (arith, room)) ∙ was x l ∙ elsewhere x l (λ (a, b). omega arith)
          ]
        ]

-- between the places that were computed
pub class_filled : (G : Layout) (canary : ℕ) (h : List ℕ) (c : ℕ) {now w : List ℕ} {start end region n size : ℕ} → Partly G canary h c now
    → region ≡ G.region → n ≡ slots G c → size ≡ slot_size G c
    → start ≡ min (c * region) (length now) → end ≡ min (start + n * size) (length now)
    → w ≡ filled canary (length (take (end - start) (drop start now)))
    → Partly G canary h (c + 1) (take start now ++ (w ++ drop (end - start) (drop start now)))
class_filled G canary h c {now} {w} {start} {end} so r n s from to wrote =
    let lent : length (take (end - start) (drop start now)) ≡ end - start = length-take-le (end - start) (drop start now) (rw length-drop (omega arith)) in
    let same : w ≡ filled canary (end - start) = rw lent at wrote in
    let size : length (filled canary (end - start)) ≡ end - start = tabulate_length (canary_byte canary) 0 (end - start) in
    rw same (rw size at (partly_more G canary h c so (rw r at from) (rw (n, s) at to)))
