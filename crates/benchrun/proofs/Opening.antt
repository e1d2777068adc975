-- The opening is served: it leaves fresh metadata, and the pattern in every slot.
use Prim.Native.Nat.{ℕ}
use native.Mathlib.Omega.{arith}
use mathlib.Core.Path.{◌≡◌, refl}
use mathlib.Core.List.{List, ◌∷◌}
use lib.ListN.{length, replicate}
use Rattle.search.specs.First.{first}
use Rattle.mwc.specs.Draw.{is_one_of}
use Rattle.geometry.specs.Layout.{region_of, bitmap_at, slot_size}
use Rattle.rules.specs.Open.{fresh}
use Rattle.rules.specs.Call.{opening, opened_by}
use Rattle.judge.proofs.Judging.{right_lengths}
use Rattle.rules.proofs.Serving.{opening_served}
use Rattle.benchrun.specs.Replay.{layout, heap_bytes, metadata_bytes, given}

-- the length that the program's array has
pub metadata_bytes_lem : metadata_bytes ≡ 190
unfolding bitmap_at slot_size
metadata_bytes_lem = refl

region_found : region_of heap_bytes ≡ 4096
unfolding first
region_found = refl

pub replay_opens : (m : List ℕ) → length m ≡ metadata_bytes → opening heap_bytes m given ≡ opened_by layout given
unfolding first is_one_of
replay_opens m e = opening_served heap_bytes m given (right_lengths heap_bytes (length m) (λ z. omega (arith, region_found)) e) refl

-- that metadata, byte by byte: z, w, and zeros, the pattern among them
opened_bytes : fresh layout given ≡ 1 ∷ 0 ∷ 0 ∷ 0 ∷ 1 ∷ replicate 185 0
unfolding bitmap_at slot_size
opened_bytes = refl
