-- Where a byte is first found, as a search finds it.
use Prim.Native.Nat.{ℕ, suc, min, ◌+◌, ◌<◌, ◌≤◌}
use mathlib.Core.Path.{◌≡◌, sym, ◌∙◌}
use mathlib.Core.Bool.{Bool, true, false}
use mathlib.Core.List.{List, [], ◌∷◌}
use native.Mathlib.Nat.{zero-add, add-zero, suc-add, add-suc, sub-zero}
use native.Mathlib.Omega.{arith}
use lib.Dec.{eqb}
use lib.ListN.{length, take, get_or}
use lib.Seq.{length-take-le, get_or-take}
use Rattle.scan.specs.Bytes.{index_of, index_after}
use Rattle.search.specs.First.{first}
use Rattle.search.proofs.First.{first_range}
use Rattle.search.proofs.Blocks.{first_part}
use Rattle.span.specs.Pattern.{is_byte}

index_from : (b : ℕ) (xs : List ℕ) (test : ℕ → Bool) (i : ℕ) → ((k : ℕ) → test (i + k) ≡ eqb (get_or xs k 0) b)
    → first test i (length xs) ≡ i + index_of b xs
unfolding first index_of index_after
index_from b [] test i same = sym (add-zero i)
index_from b (x ∷ xs) test i same =
    go (eqb x b) (rw add-zero at (same 0)) (index_from b xs test (suc i) (λ k. rw (suc-add, ← add-suc) (same (suc k))))
  where
    go : (t : Bool) → test i ≡ t → first test (suc i) (length xs) ≡ suc i + index_of b xs
        → first test i (suc (length xs)) ≡ i + index_after t (index_of b xs)
    go true e rest = rw (e, first) (sym (add-zero i))
    go false e rest = rw (e, first) (omega arith)

pub index_first : (b : ℕ) (xs : List ℕ) → first (is_byte b xs) 0 (length xs) ≡ index_of b xs
index_first b xs = index_from b xs (is_byte b xs) 0 (λ k. rw zero-add) ∙ zero-add (index_of b xs)

pub index_le : (b : ℕ) (xs : List ℕ) → index_of b xs ≤ length xs
index_le b xs = omega (arith, index_first b xs, first_range (is_byte b xs) 0 (length xs))

-- the first of some bytes
pub index_front : (b : ℕ) (s : List ℕ) (count : ℕ) {r : ℕ} → count ≤ length s
    → r ≡ first (is_byte b (take count s)) 0 (length (take count s)) → r ≡ min count (index_of b s)
index_front b s count h found =
    let same : (i : ℕ) → i < count → is_byte b (take count s) i ≡ is_byte b s (0 + i) =
    λ i l. rw (get_or-take count s i 0 l, zero-add) in
    rw (length-take-le count s h) at found
    ∙ first_part (is_byte b (take count s)) (is_byte b s) 0 count (length s) same (omega arith) (omega arith)
    ∙ rw (sub-zero, index_first)
