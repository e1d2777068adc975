-- Who is left: those whose output has been written so far, block after block.
use Prim.Native.Nat.{ℕ, ◌+◌, ◌-◌, ◌*◌, ◌≤◌, min}
use native.Mathlib.Omega.{arith}
use mathlib.Core.Path.{◌≡◌, refl, sym, ap, ap₂, ◌∙◌}
use mathlib.Core.Bool.{Bool, false, ◌&&◌, and-true, and_assoc}
use mathlib.Core.List.{List}
use lib.ListN.{length, get_or, take, drop, length-take}
use lib.Seq.{take_all, take-take, drop-drop}
use lib.Dec.{ltb}
use Rattle.search.proofs.Tabulate.{tabulate_at, tabulate_same}
use Rattle.alike.specs.Alike.{alike}
use Rattle.alike.proofs.Comparing.{alike_parts}
use Rattle.writing.specs.Overwrite.{overwrite}
use Rattle.std.proofs.lemmas.List.{drop-take}
use Rattle.writing.proofs.Parts.{part_here, part_before}
use Rattle.numbers.proofs.Cut.{take_min}
use Rattle.vote.specs.Decide.{longest, first_of, block_in, sharing}
use Rattle.whole.specs.Whole.{block_at}
use Rattle.whole.specs.Outputs.{output_of}

-- the block from a place on, as it is read from an output
block_read : (xs : List ℕ) (len at : ℕ) → at ≤ len
    → drop at (take (at + longest) (take len xs)) ≡ take (min longest (len - at)) (drop at xs)
block_read xs len at h =
    let e : at + (len - at) ≡ len = omega arith in
    let rest : drop at (take len xs) ≡ take (len - at) (drop at xs) = rw e at (drop-take at (len - at) xs) in
    drop-take at longest (take len xs) ∙ rw (take_min longest (len - at) (drop at xs) refl) (ap (take longest) rest)

module _ (outputs : List ℕ) (k len : ℕ) where
  -- those whose output begins as what is written of it, up to a place
  abbrev pub up_to : ℕ → List ℕ → List Bool
  up_to at out = sharing (first_of k) (λ r. take at (output_of outputs len r)) (take at (take len out))

  -- one block more
  module _ (at : ℕ) (out content : List ℕ) (h : at ≤ len) (room : len ≤ length out) (size : length content ≡ min longest (len - at)) where
    abbrev after : List ℕ
    after = overwrite out at content

    -- what is written before the block, and the block
    written_before : take at (take (at + longest) (take len after)) ≡ take at (take len out)
    written_before =
        take-take at (at + longest) (take len after) (omega arith)
        ∙ take-take at len after h
        ∙ part_before out at content (omega arith) 0 at (omega arith)
        ∙ sym (take-take at len out h)

    written_here : drop at (take (at + longest) (take len after)) ≡ content
    written_here = block_read after len at h ∙ part_here out at content (omega arith) (min longest (len - at)) size

    -- the same of a replica's output
    output_before : (r : ℕ) → take at (take (at + longest) (output_of outputs len r)) ≡ take at (output_of outputs len r)
    output_before r = take-take at (at + longest) (output_of outputs len r) (omega arith)

    output_here : (r : ℕ) → drop at (take (at + longest) (output_of outputs len r)) ≡ block_in outputs (block_at k len at) r
    output_here r = block_read (drop (r * len) outputs) len at h ∙ rw (drop-drop at (r * len) outputs)

    same_so_far : (r : ℕ)
        → alike (take at (take len out)) (take at (output_of outputs len r)) && alike content (block_in outputs (block_at k len at) r)
        ≡ alike (take (at + longest) (take len after)) (take (at + longest) (output_of outputs len r))
    same_so_far r =
        sym
        (alike_parts at (take (at + longest) (take len after)) (take (at + longest) (output_of outputs len r))
        ∙ rw (written_before, output_before r, written_here, output_here r))

    pub upto_more : sharing (up_to at out) (block_in outputs (block_at k len at)) content ≡ up_to (at + longest) after
    upto_more =
        tabulate_same _ _ 0 16 0
        (λ r l m.
        rw (tabulate_at (λ r. get_or (first_of k) r false && alike (take at (take len out)) (take at (output_of outputs len r))) false 16 r (omega arith))
        (and_assoc (get_or (first_of k) r false) _ _ ∙ ap (λ (t : Bool). get_or (first_of k) r false && t) (same_so_far r)))

  -- nothing yet, and all
  pub upto_none : (out : List ℕ) → first_of k ≡ up_to 0 out
  unfolding alike
  upto_none out = tabulate_same _ _ 0 16 0 (λ r l m. rw (tabulate_at (λ r. ltb r k) false 16 r (omega arith)) (sym (and-true (ltb r k))))

  pub upto_all : (at : ℕ) (out : List ℕ) → len ≤ at → up_to at out ≡ sharing (first_of k) (output_of outputs len) (take len out)
  upto_all at out h =
      tabulate_same _ _ 0 16 0
      (λ r l m. ap₂ (λ (x y : List ℕ). get_or (first_of k) r false && alike x y) (whole_of out) (whole_of (drop (r * len) outputs)))
    where
      whole_of : (xs : List ℕ) → take at (take len xs) ≡ take len xs
      whole_of xs = take_all at (take len xs) (rw length-take (omega arith))
