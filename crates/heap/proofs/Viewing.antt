-- What a read shows: where it lies and how many bytes it is.
use Prim.Native.Nat.{ℕ}
use mathlib.Core.Path.{◌≡◌, sym, ap, ◌∙◌}
use mathlib.Core.List.{List}
use lib.ListN.{length}
use Rattle.view.specs.declared.View.{View}
use Rattle.view.specs.View.{view_bytes, address_of, place_within}
use Rattle.rules.specs.Call.{Call, reading}
use Rattle.view.proofs.Lying.{view_length, view_within}
use Rattle.rules.proofs.Showing.{shown_lies, shown_value}

-- what is shown lies where its place says, and has as many bytes as the value says
module _ (heap m : List ℕ) (offset count : ℕ) (page : List ℕ) (heap_at page_at : ℕ × ℕ) where
  abbrev called : Call
  called = reading (length heap) m offset count page

  pub all_shown : {v : View} {address : ℕ × ℕ} {xs : List ℕ} → v ≡ called.view
      → address ≡ address_of (place_within (length heap) v.place) heap_at page_at → xs ≡ view_bytes v heap page
      → (address ≡ address_of called.view.place heap_at page_at) × (xs ≡ view_bytes called.view heap page)
      × (length xs ≡ called.answer.value)
  all_shown {xs = xs} is starts e =
      let lies = shown_lies (length heap) m offset count page in
      let shown : xs ≡ view_bytes called.view heap page = rw is at e in (
        rw (is, view_within (length heap) (length page) called.view lies) at starts,
        shown,
        ap length shown ∙ view_length heap page called.view lies ∙ sym (shown_value (length heap) m offset count page),
      )
