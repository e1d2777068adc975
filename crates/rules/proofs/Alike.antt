-- Heaps of one length hold the same bytes in every clear slot exactly if they hold the same byte at every offset in one.
use Prim.Native.Nat.{ℕ, ◌+◌, ◌<◌}
use mathlib.Core.Path.{◌≡◌, sym, ap, ◌∙◌}
use mathlib.Core.Logic.{◌↔◌}
use mathlib.Core.List.{List}
use native.Mathlib.Omega.{arith}
use lib.ListN.{length, drop, get_or, length-take, length-drop}
use lib.Seq.{ext_get_or}
use Rattle.geometry.specs.declared.Layout.{Layout}
use Rattle.geometry.specs.declared.Location.{Location}
use Rattle.geometry.specs.Layout.{slot_size, slot_start, locate}
use Rattle.geometry.proofs.Slots.{slot_located, located_at, into_lt}
use Rattle.rules.specs.Inspected.{slot_bytes, ClearAlike, ClearBytesAlike}
use Rattle.rules.proofs.Damage.{clear_bit, bit_clear, slot_at}

module _ (G : Layout) (m h h' : List ℕ) where
  by_bytes : ClearAlike G m h h' → ClearBytesAlike G m h h'
  by_bytes same x some clear =
      let l : Location = locate G x in
      let byte : (y : List ℕ) → get_or (slot_bytes G y l.class l.slot) l.into 0 ≡ get_or y x 0 = λ y.
      slot_at G y l.class l.slot l.into (into_lt G x some) ∙ ap (λ (n : ℕ). get_or y n 0) (sym (located_at G x)) in
      sym (byte h)
      ∙ ap (λ (s : List ℕ). get_or s l.into 0) (same l.class l.slot some (omega (arith, clear_bit G m l.class l.slot some clear)))
      ∙ byte h'

  by_slots : length h ≡ length h' → ClearBytesAlike G m h h' → ClearAlike G m h h'
  by_slots long same c i slot clear = ext_get_or 0 (slot_bytes G h c i) (slot_bytes G h' c i) (simp (length-take, length-drop, long)) byte
    where
      byte : (k : ℕ) → k < length (slot_bytes G h c i) → get_or (slot_bytes G h c i) k 0 ≡ get_or (slot_bytes G h' c i) k 0
      byte k l =
          let inside : k < slot_size G c = omega (arith, length-take (slot_size G c) (drop (slot_start G c i) h)) in
          let (class', slot') = slot_located G c i (slot_start G c i + k) slot (omega arith) (omega arith) in
          slot_at G h c i k inside
          ∙ same (slot_start G c i + k) (rw (slot', class') slot) (rw (slot', class') (bit_clear G m c i slot clear))
          ∙ sym (slot_at G h' c i k inside)

  pub alike_either : length h ≡ length h' → ClearAlike G m h h' ↔ ClearBytesAlike G m h h'
  alike_either long = (by_bytes, by_slots long)
