-- Lengths that were judged right fit the layout.
use Rattle.std.specs.Prelude.{Ok}
use Prim.Native.Nat.{ℕ}
use mathlib.Core.Path.{◌≡◌, refl, sym}
use mathlib.Core.List.{List}
use lib.ListN.{length}
use Rattle.geometry.specs.declared.Layout.{Layout}
use Rattle.geometry.specs.Layout.{heap_length}
use Rattle.judge.specs.Judge.{lengths, admit, Fits}
use Rattle.judge.proofs.Judging.{laid_fits, admit_fits}

pub laid : (n k : ℕ) {G : Layout} → Ok G ≡ lengths n k → Fits G n k
laid n k e = (laid_fits n k (sym e)).1

pub admitted : (n : ℕ) (m : List ℕ) {G : Layout} → Ok G ≡ admit n m → Fits G n (length m)
admitted n m e = (admit_fits n m (sym e)).1

-- the metadata alone
pub admitted_alone : (n : ℕ) (m : List ℕ) {G : Layout} → Ok G ≡ admit n m → Fits G (heap_length G) (length m)
admitted_alone n m e = let fits = admitted n m e in record { small = fits.small; heap = refl; metadata = fits.metadata }
