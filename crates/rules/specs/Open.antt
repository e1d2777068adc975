-- What an opening is given, and the metadata that it writes. What becomes of the heap: Canary.antt.
use Rattle.std.specs.Prelude.{ℕ, List, replicate}
use Rattle.mwc.specs.declared.Generator.{Generator}
use Rattle.geometry.specs.declared.Layout.{Layout}
use Rattle.geometry.specs.Layout.{metadata_length}
use Rattle.metadata.specs.Metadata.{with_generator, with_canary}

-- what an opening is given
pub record Setup : Type 0 where
  pub seeds : Generator
  pub canary : ℕ

abbrev pub setup : ℕ → ℕ → ℕ → Setup
setup z w canary = record { seeds = record { z = z; w = w }; canary = canary }

-- metadata as an opening writes it: the generator, counts of 0, the canary, and clear bitmaps
abbrev pub fresh : Layout → Setup → List ℕ
fresh G s = with_canary (with_generator (replicate (metadata_length G) 0) s.seeds) s.canary
