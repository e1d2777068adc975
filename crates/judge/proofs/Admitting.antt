-- The look at the live counts, class by class.
use Prim.Native.Nat.{ℕ, ◌+◌, ◌-◌, ◌/◌, ◌<◌, ◌≤◌}
use mathlib.Core.Path.{◌≡◌, sym, ◌∙◌}
use mathlib.Core.Bool.{true, false}
use mathlib.Core.List.{List}
use native.Mathlib.Omega.{arith}
use borrow.Author.Tests.{lt-ltb, le-ltb}
use lib.ListN.{take}
use Rattle.words.proofs.Stored.{word_taken}
use Rattle.search.specs.First.{first}
use Rattle.search.proofs.First.{first_found, first_past, first_none}
use Rattle.geometry.specs.declared.Layout.{Layout}
use Rattle.geometry.specs.Layout.{classes, header, slots}
use Rattle.geometry.proofs.Geometry.{bitmap_after}
use Rattle.metadata.specs.Metadata.{count_at, count_of}
use Rattle.judge.specs.Judge.{Fits, is_over, any_over}

-- metadata that fits has its fields
pub has_fields : (G : Layout) {h n : ℕ} → Fits G h n → header ≤ n
has_fields G f = rw f.metadata (bitmap_after G classes)

module _ (G : Layout) (m : List ℕ) where
  -- the classes before c are not over half
  abbrev pub NoneBefore : ℕ → Type 0
  NoneBefore c = first (is_over G m) 0 classes ≡ first (is_over G m) c (classes - c)

  module _ {c : ℕ} (rest : NoneBefore c) where
    module _ (h : c < classes) {n count : ℕ} (has : n ≡ slots G c) (read : count ≡ count_of c (take header m)) where
      counts : count ≡ count_of c m
      counts = read ∙ word_taken m header (count_at c) (omega arith)

      -- class c is over half, or not
      pub over_found : n / 2 < count → true ≡ any_over G m
      over_found over =
          let test : is_over G m c ≡ true = rw (← has, ← counts) (lt-ltb (n / 2) count over) in
          rw (rest, first_found (is_over G m) h test) (sym (lt-ltb c classes h))

      pub over_past : count ≤ n / 2 → NoneBefore (c + 1)
      over_past few = rest ∙ first_past (is_over G m) h (rw (← has, ← counts) (le-ltb (n / 2) count few))

    -- there are no more classes
    pub over_none : classes ≤ c → false ≡ any_over G m
    over_none h = rw (rest, first_none (is_over G m) h) (sym (le-ltb c classes h))
