-- Where a part of a slice lies.
use Rattle.std.specs.Prelude.{ℕ, ◌+◌, min}

-- where the part from a start to an end begins in memory, given where the slice of some length does, each as a block
-- and a place in it: no further on than where the part ends, and that in the slice
abbrev pub part_address : ℕ × ℕ → ℕ → ℕ → ℕ → ℕ × ℕ
part_address slice len start end = (slice.0, slice.1 + min start (min end len))
