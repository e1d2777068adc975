-- What the draws lead to, and where they end.
use Prim.Native.Nat.{ℕ, zero, suc, ◌%◌, ◌<◌}
use mathlib.Core.Path.{◌≡◌, refl}
use mathlib.Core.Bool.{Bool, true, false}
use mathlib.Core.List.{List, [], ◌∷◌}
use native.Mathlib.Nat.{mod-lt}
use native.Mathlib.Omega.{arith}
use Rattle.search.specs.First.{first}
use Rattle.mwc.specs.declared.Generator.{Generator}
use Rattle.mwc.specs.Draw.{next, drawn}
use Rattle.bitmap.specs.Bitmap.{is_set, count_set, next_clear}
use Rattle.bitmap.proofs.Slot.{Clear, is_clear_lem}
use Rattle.bitmap.proofs.Walk.{next_clear_lem, next_room}
use Rattle.probe.specs.Probe.{probe, draws}

module _ (b : List ℕ) (n : ℕ) where
  -- a slot that the draws end at is clear
  pub probe_clear : (g : Generator) (last k : ℕ) → (probe b n g last k).slot < n → Clear b n (probe b n g last k).slot
  unfolding probe
  probe_clear g last zero h = next_clear_lem b n last h
  probe_clear g last (suc k) h = go (is_set b n i) refl (probe_clear (next g) i k)
    where
      i : ℕ
      i = drawn (next g) % n

      go : (t : Bool) → is_set b n i ≡ t → ((probe b n (next g) i k).slot < n → Clear b n (probe b n (next g) i k).slot)
          → Clear b n (probe b n g last (suc k)).slot
      go true e rest = rw (e, probe) (rest (rw (e, probe) at h))
      go false e rest = rw (e, probe) (is_clear_lem b n i (rw (e, probe) at h) e)

  -- and where not all are set they end at one
  pub probe_room : count_set b n < n → (g : Generator) (last k : ℕ) → (probe b n g last k).slot < n
  unfolding probe
  probe_room room g last zero = next_room b n last room
  probe_room room g last (suc k) = go (is_set b n i) refl (probe_room room (next g) i k)
    where
      i : ℕ
      i = drawn (next g) % n

      go : (t : Bool) → is_set b n i ≡ t → (probe b n (next g) i k).slot < n → (probe b n g last (suc k)).slot < n
      go true e rest = rw (e, probe) rest
      go false e rest = rw (e, probe) (mod-lt (drawn (next g)) (omega arith))

-- w is one that draws leave as it is, so each tests slot 31; z is that after 32 draws, and the walk goes round the end
walk_after_32_draws : probe (0 ∷ 0 ∷ 0 ∷ 0x80 ∷ []) 32 (record { z = 1; w = 0x464fffff }) 0 draws
    ≡ record { slot = 0; generator = record { z = 0x57e707d4; w = 0x464fffff } }
unfolding probe next_clear first
walk_after_32_draws = refl
