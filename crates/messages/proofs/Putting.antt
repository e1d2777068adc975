-- Texts put one after another, and what is found.
use Prim.Native.Nat.{ℕ, ◌+◌, ◌≤◌}
use mathlib.Core.Path.{◌≡◌, ◌∙◌}
use mathlib.Core.List.{List, ◌++◌}
use native.Mathlib.Omega.{arith}
use borrow.Author.Tests.{eq-eqb, ne_eqb}
use lib.ListN.{length, length-append}
use Rattle.line.specs.Text.{bytes}
use Rattle.writing.proofs.Writing.{Wrote, wrote_then, wrote_length}
use Rattle.messages.specs.Put.{Put, IsPut}
use Rattle.messages.specs.declared.Writer.{Writer}
use Rattle.quoting.specs.Quoted.{quoted}
use Rattle.messages.specs.Message.{found}

-- texts put one after another
pub two_put : {xs mid out ys zs : List ℕ} {at p r : ℕ} → Put xs at ys p mid → Put mid p zs r out
    → at + (length ys + length zs) ≤ length xs → Put xs at (ys ++ zs) r out
two_put {xs} {mid} {ys = ys} {zs = zs} {at = at} {p = p} first second room =
    let here = first.place in
    let end = second.place in
    let one : Wrote xs mid at ys = record { bytes = first.bytes; room = omega arith } in
    let size = wrote_length one in
    let two : Wrote mid _ p zs = record { bytes = second.bytes; room = omega arith } in
    record { place = rw length-append (omega arith); bytes = (wrote_then one two here).bytes }

-- so does a writer put them
pub put_then : {old mid new : Writer} {xs ys : List ℕ} → IsPut old mid xs → IsPut mid new ys
    → old.at + (length xs + length ys) ≤ length old.out.now → IsPut old new (xs ++ ys)
put_then first second room =
    record {
      same = (second.same.0 ∙ first.same.0, second.same.1 ∙ first.same.1);
      put = two_put first.put second.put room;
    }

module _ (word : List ℕ) where
  pub found_none : length word ≡ 0 → found word ≡ bytes "the end of the line\n"
  unfolding found
  found_none h = rw (eq-eqb (length word) 0 h)

  pub found_some : (length word ≡ 0 → ⊥) → found word ≡ quoted word ++ bytes "\n"
  unfolding found
  found_some h = rw (ne_eqb (length word) 0 h)
