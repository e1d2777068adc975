-- Canaries (the paper's pattern, with which slots are painted): four bytes that a slot is filled with over and over,
-- begun anew at its first byte.
use Rattle.std.specs.Prelude.{ℕ, ◌%◌, Bool, not, cond, List, length, get_or, ltb, eqb}
use Rattle.words.specs.Word.{bytes_of}
use Rattle.search.specs.First.{first}
use Rattle.search.specs.Tabulate.{tabulate}
use Rattle.geometry.specs.declared.Layout.{Layout}
use Rattle.geometry.specs.declared.Location.{Location}
use Rattle.geometry.specs.Layout.{slots, locate}

-- byte i of a pattern over and over
abbrev pub cycled : List ℕ → ℕ → ℕ
cycled pattern i = get_or pattern (i % length pattern) 0

-- byte i of a slot
abbrev pub canary_byte : ℕ → ℕ → ℕ
canary_byte canary = cycled (bytes_of canary)

-- a slot of n bytes
abbrev pub filled : ℕ → ℕ → List ℕ
filled canary n = tabulate (canary_byte canary) 0 n

-- whether byte i of a slot is another
abbrev pub is_damaged : ℕ → List ℕ → ℕ → Bool
is_damaged canary slot i = not (eqb (get_or slot i 0) (canary_byte canary i))

-- the first byte that is; its length where none is
abbrev pub first_damage : ℕ → List ℕ → ℕ
first_damage canary slot = first (is_damaged canary slot) 0 (length slot)

abbrev pub has_damage : ℕ → List ℕ → Bool
has_damage canary slot = ltb (first_damage canary slot) (length slot)

-- byte x of a heap with a canary in every slot: where x lies in none, as it was
abbrev pub filled_byte : Layout → ℕ → List ℕ → ℕ → ℕ
filled_byte G canary h x =
    let l : Location = locate G x in
    cond (ltb l.slot (slots G l.class)) (canary_byte canary l.into) (get_or h x 0)

abbrev pub filled_heap : Layout → ℕ → List ℕ → List ℕ
filled_heap G canary h = tabulate (filled_byte G canary h) 0 (length h)
