-- A number for bytes, in place of the bytes.
use Rattle.std.specs.Prelude.{ℕ, ◌+◌, ◌*◌, ◌%◌, ◌^◌, List}
use Rattle.std.specs.List.{fold}

-- each byte after the one before it: 31 is odd, so that no byte's part is lost below 2^32
abbrev pub digest : ℕ → List ℕ → ℕ
digest sum bytes = fold (λ so_far byte. (31 * so_far + byte) % 2 ^ 32) sum bytes
