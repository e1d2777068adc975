-- Where bytes are damaged: as a span of canaries ends, and in a part.
use Prim.Native.Nat.{ℕ, ◌+◌, ◌%◌, ◌<◌, ◌≤◌}
use mathlib.Core.Path.{◌≡◌, ap, fun_ext, ◌∙◌}
use mathlib.Core.Bool.{Bool}
use mathlib.Core.List.{List}
use native.Mathlib.Omega.{arith}
use lib.Dec.{ltb}
use lib.ListN.{length, take, drop, length-drop}
use lib.Seq.{length-take-le, get_or-take, get_or-drop}
use Rattle.words.specs.Word.{bytes_of}
use Rattle.search.specs.First.{first}
use Rattle.search.proofs.First.{first_range}
use Rattle.search.proofs.Blocks.{first_inside}
use Rattle.search.proofs.Tabulate.{tabulate_at}
use Rattle.span.specs.Pattern.{pattern_size, is_other}
use Rattle.canary.specs.Canary.{canary_byte, filled, is_damaged, first_damage, has_damage}
use Rattle.canary.proofs.Filling.{cycled_anew}

module _ (canary : ℕ) (b : List ℕ) where
  pub damage_le : first_damage canary b ≤ length b
  damage_le = omega (arith, first_range (is_damaged canary b) 0 (length b))

  -- a pattern of canaries over and over is the canary over and over
  pub damage_found : {pattern : List ℕ} {r : ℕ} → pattern ≡ filled canary pattern_size
      → r ≡ first (is_other pattern b) 0 (length b) → r ≡ first_damage canary b
  damage_found made found = found ∙ rw made (ap (λ (test : ℕ → Bool). first test 0 (length b)) (fun_ext byte))
    where
      byte : (i : ℕ) → is_other (filled canary pattern_size) b i ≡ is_damaged canary b i
      byte i =
          let again : i % pattern_size % 4 ≡ i % 4 = omega arith in
          rw (tabulate_at (canary_byte canary) 0 pattern_size (i % pattern_size) (omega arith), again)

-- whether the first damage is in a part that begins whole canaries from the start, where none comes before it
pub part_damage : (canary : ℕ) (b : List ℕ) (at n : ℕ) → at % 4 ≡ 0 → at + n ≤ length b → at ≤ first_damage canary b
    → has_damage canary (take n (drop at b)) ≡ ltb (first_damage canary b) (at + n)
part_damage canary b at n whole room before =
    let size : length (take n (drop at b)) ≡ n = length-take-le n (drop at b) (rw length-drop (omega arith)) in
    rw size (first_inside (is_damaged canary (take n (drop at b))) (is_damaged canary b) at n (length b) same room before)
  where
    same : (i : ℕ) → i < n → is_damaged canary (take n (drop at b)) i ≡ is_damaged canary b (at + i)
    same i l = rw (get_or-take n (drop at b) i 0 l, get_or-drop at b i 0, cycled_anew (bytes_of canary) at i whole)
