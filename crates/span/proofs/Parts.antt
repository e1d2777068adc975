-- A block held against the part of a pattern that lies there: what is sought in it is sought in the whole.
use Prim.Native.Nat.{ℕ, ◌+◌, ◌%◌, ◌<◌, ◌≤◌}
use mathlib.Core.Path.{◌≡◌, sym, ◌∙◌}
use mathlib.Core.Bool.{Bool}
use mathlib.Core.List.{List}
use native.Mathlib.Nat.{mod-one, mod-add-mod}
use native.Mathlib.Omega.{arith}
use lib.Dec.{ltb}
use lib.ListN.{length, replicate, length-replicate, get_or-replicate}
use Rattle.search.specs.First.{first}
use Rattle.search.proofs.First.{first_range}
use Rattle.search.proofs.Blocks.{first_inside}
use Rattle.span.specs.Pattern.{is_sought, is_sought_over, first_sought, Laid}

pub sought_le : (equal : Bool) (period : ℕ) (pattern b : List ℕ) → first_sought equal period pattern b ≤ length b
sought_le equal period pattern b = omega (arith, first_range (is_sought_over equal period pattern b) 0 (length b))

-- whether the first byte sought is in a block that none comes before
pub block_found : (equal : Bool) {period : ℕ} {pattern : List ℕ} (b : List ℕ) {block : ℕ} → Laid pattern period block
    → (at : ℕ) {t : Bool} → at % block ≡ 0 → at + block ≤ length b → at ≤ first_sought equal period pattern b
    → t ≡ ltb (first (is_sought equal pattern (at % period) b at) 0 block) block
    → t ≡ ltb (first_sought equal period pattern b) (at + block)
block_found equal {period} {pattern} b {block} laid at whole fits before seen =
    seen
    ∙ first_inside (is_sought equal pattern place b at) (is_sought_over equal period pattern b) at block (length b)
    sought fits before
  where
    place : ℕ
    place = at % period

    sought : (i : ℕ) → i < block → is_sought equal pattern place b at i ≡ is_sought_over equal period pattern b (at + i)
    sought i l =
        let inside : place + i < length pattern = omega (arith, laid.fits at whole) in
        rw (← (laid.repeats (place + i) inside), mod-add-mod at period i)

-- one byte laid out
module _ (byte n : ℕ) where
  pub byte_laid : (block : ℕ) → 0 < block → block ≤ n → Laid (replicate n byte) 1 block
  byte_laid block some long =
      record {
        some = some;
        turns = omega arith;
        fits = λ at whole. rw (mod-one, length-replicate) (omega arith);
        repeats = λ i l.
            let inside : i < n = rw length-replicate at l in
            rw (mod-one) (get_or-replicate n 0 byte 0 (omega arith) ∙ sym (get_or-replicate n i byte 0 inside));
      }
