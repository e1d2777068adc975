-- A list cut by the least of two numbers.
use Prim.Native.Nat.{ℕ, ◌≤◌, min}
use native.Mathlib.Decide.{dec_le}
use native.Mathlib.Omega.{arith}
use mathlib.Core.Path.{◌≡◌}
use mathlib.Core.List.{List}
use lib.ListN.{length, take, length-take}
use lib.Seq.{take_all, take-take}

-- it is cut twice
pub take_min : (a b : ℕ) (xs : List ℕ) {n : ℕ} → n ≡ min a b → take n xs ≡ take a (take b xs)
take_min a b xs {n} e = go (dec_le a b)
  where
    go : Dec (a ≤ b) → take n xs ≡ take a (take b xs)
    go (yes h) =
        let m : n ≡ a = omega arith in
        rw (m, take-take a b xs h)
    go (no h) =
        let m : n ≡ b = omega arith in
        let size : length (take b xs) ≤ a = rw length-take (omega arith) in
        rw (m, take_all a (take b xs) size)
