-- A text put at a place.
use Rattle.std.specs.Prelude.{ℕ, ◌+◌, ◌≡◌, List, length}
use Rattle.std.specs.Borrow.{MutBor}
use Rattle.writing.specs.Overwrite.{overwrite}
use Rattle.messages.specs.declared.Writer.{Writer}

-- the place after it, and the bytes among which it is put
pub record Put (before : List ℕ) (at : ℕ) (text : List ℕ) (end : ℕ) (after : List ℕ) : Type 0 where
  pub place : end ≡ at + length text
  pub bytes : after ≡ overwrite before at text

-- a lent buffer is still the same, and as long
abbrev pub SameBuffer : MutBor (List ℕ) → MutBor (List ℕ) → Type 0
SameBuffer before after = (after.ghost_name ≡ before.ghost_name) × (length after.now ≡ length before.now)

-- a writer has put the text, and has still the same buffer
pub record IsPut (before after : Writer) (text : List ℕ) : Type 0 where
  pub same : SameBuffer before.out after.out
  pub put : Put before.out.now before.at text after.at after.out.now
