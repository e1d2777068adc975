-- Writing over bytes.
use Rattle.std.specs.Prelude.{ℕ, List, ◌++◌, length, take, drop}

-- the bytes xs with ys in place of those from a on
abbrev pub overwrite : List ℕ → ℕ → List ℕ → List ℕ
overwrite xs a ys = take a xs ++ (ys ++ drop (length ys) (drop a xs))
