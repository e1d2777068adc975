-- A text written at the front of a target, as far as it fits.
use Prim.Native.Nat.{ℕ, ◌≤◌}
use mathlib.Core.Path.{◌≡◌, sym, ap, ◌∙◌}
use mathlib.Core.List.{List, ◌++◌, append_assoc}
use native.Mathlib.Omega.{arith}
use lib.ListN.{length, take, drop, take-append-drop}
use lib.Seq.{length-take-le, drop-append-le}
use Rattle.writing.specs.Overwrite.{overwrite}

-- what a writer has done that put a text there
abbrev pub Put : List ℕ → List ℕ → ℕ → List ℕ → Type 0
Put t text r after = (r ≡ length text) × (after ≡ overwrite t 0 text)

-- the first k elements of a list, lent and written over: so is the list
pub put_back : (text x : List ℕ) {k : ℕ} → length text ≤ k → k ≤ length x
    → overwrite (take k x) 0 text ++ drop k x ≡ text ++ drop (length text) x
put_back text x {k} h l =
    let room : length (take k x) ≡ k = length-take-le k x l in
    let kept : drop (length text) (take k x) ++ drop k x ≡ drop (length text) x =
    sym (drop-append-le (length text) (take k x) (drop k x) (omega arith)) ∙ ap (drop (length text)) (take-append-drop k x) in
    append_assoc text (drop (length text) (take k x)) (drop k x) ∙ ap (λ (l : List ℕ). text ++ l) kept
