-- Bytes that are shown without a copy: a part of the heap, or of the page that is lent beside it.
use Rattle.std.specs.Prelude.{ℕ, ◌+◌, ◌≤◌, min, cond, List, eqb, take, drop}
use Rattle.view.specs.declared.Place.{Place}
use Rattle.view.specs.declared.Place.TheVariants.{Heap, Page}
use Rattle.view.specs.declared.View.{View}

abbrev pub view : Place → ℕ → View
view place n = record { place = place; len = n }

-- what lies from a place on, and the bytes of a view
abbrev pub bytes_from : Place → List ℕ → List ℕ → List ℕ
bytes_from (Heap offset) heap page = drop offset heap
bytes_from Page heap page = page

abbrev pub view_bytes : View → List ℕ → List ℕ → List ℕ
view_bytes v heap page = take v.len (bytes_from v.place heap page)

-- where a place lies in memory, given a heap and a page that lie there: in which block, and how far into it
abbrev pub address_of : Place → ℕ × ℕ → ℕ × ℕ → ℕ × ℕ
address_of (Heap offset) heap page = (heap.0, heap.1 + offset)
address_of Page heap page = page

-- a place cut to a heap of this length: what lies past its end is at its end
abbrev pub place_within : ℕ → Place → Place
place_within heap_bytes (Heap offset) = Heap (min offset heap_bytes)
place_within heap_bytes Page = Page

-- the empty part of the page
abbrev pub no_view : View
no_view = view Page 0

-- what is shown of count bytes with a given room to the end of the live object: the bytes from the offset on that are
-- in the room; in no live object, where there is none, the front of the page
abbrev pub within : ℕ → ℕ → ℕ → ℕ → View
within offset room count page_bytes =
    cond (eqb room 0) (view Page (min count page_bytes)) (view (Heap offset) (min count room))

-- n bytes from a place on end within a heap and a page of these lengths
abbrev pub EndsWithin : ℕ → ℕ → ℕ → Place → Type 0
EndsWithin heap_bytes page_bytes n (Heap offset) = offset + n ≤ heap_bytes
EndsWithin heap_bytes page_bytes n Page = n ≤ page_bytes

-- so all bytes of a view are theirs
abbrev pub Lies : ℕ → ℕ → View → Type 0
Lies heap_bytes page_bytes v = EndsWithin heap_bytes page_bytes v.len v.place
