-- Views whose bytes all lie in the heap or in the page.
use Prim.Native.Nat.{ℕ, ◌+◌, ◌≤◌, min}
use mathlib.Core.Path.{◌≡◌, refl, ap}
use mathlib.Core.Bool.{Bool, true, false}
use mathlib.Core.List.{List}
use native.Mathlib.Omega.{arith}
use lib.Dec.{eqb}
use lib.ListN.{length, take, length-take, length-drop}
use Rattle.view.specs.declared.Place.{Place}
use Rattle.view.specs.declared.Place.TheVariants.{Heap, Page}
use Rattle.view.specs.declared.View.{View}
use Rattle.view.specs.View.{bytes_from, view_bytes, place_within, EndsWithin, Lies, within}

-- what lies in the heap or the page is as long as the view says
from_length : (heap page : List ℕ) (n : ℕ) (p : Place) → EndsWithin (length heap) (length page) n p
    → length (take n (bytes_from p heap page)) ≡ n
from_length heap page n (Heap offset) h = simp (length-take, length-drop) (omega arith)
from_length heap page n Page h = simp length-take (omega arith)

pub view_length : (heap page : List ℕ) (v : View) → Lies (length heap) (length page) v → length (view_bytes v heap page) ≡ v.len
view_length heap page v h = from_length heap page v.len v.place h

-- and it starts where its place says, not at the heap's end
from_within : (heap_bytes page_bytes n : ℕ) (p : Place) → EndsWithin heap_bytes page_bytes n p → place_within heap_bytes p ≡ p
from_within heap_bytes page_bytes n (Heap offset) h =
    let start : min offset heap_bytes ≡ offset = omega arith in
    ap Heap start
from_within heap_bytes page_bytes n Page h = refl

pub view_within : (heap_bytes page_bytes : ℕ) (v : View) → Lies heap_bytes page_bytes v → place_within heap_bytes v.place ≡ v.place
view_within heap_bytes page_bytes v h = from_within heap_bytes page_bytes v.len v.place h

-- those in a room that ends within the heap
pub room_lies : (n offset room count page_bytes : ℕ) → offset + room ≤ n → Lies n page_bytes (within offset room count page_bytes)
room_lies n offset room count page_bytes h = go (eqb room 0) refl
  where
    go : (t : Bool) → eqb room 0 ≡ t → Lies n page_bytes (within offset room count page_bytes)
    go true e = rw e (omega arith)
    go false e = rw e (omega arith)
