-- The draws that lead to a slot, one turn of the loop at a time.
use Prim.Native.Nat.{ℕ, zero, suc, ◌+◌, ◌-◌, ◌%◌, ◌≤◌, ◌<◌}
use mathlib.Core.Path.{◌≡◌}
use mathlib.Core.Bool.{true, false}
use mathlib.Core.List.{List}
use native.Mathlib.Omega.{arith}
use Rattle.mwc.specs.declared.Generator.{Generator}
use Rattle.mwc.specs.Draw.{next, drawn}
use Rattle.bitmap.specs.Bitmap.{is_set, next_clear}
use Rattle.probe.specs.Probe.{probe, draws}

module _ (b : List ℕ) (n last : ℕ) (g : Generator) where
  module _ {g' : Generator} {i : ℕ} (stepped : g' ≡ next g) (tested : i ≡ drawn g' % n) where
    -- a draw that meets a clear slot takes it
    pub probe_hit : {left : ℕ} → 0 < left → is_set b n i ≡ false → probe b n g last left ≡ record { slot = i; generator = g' }
    unfolding probe
    probe_hit {left = zero} h e = absurd (omega arith)
    probe_hit {left = suc k} h e = rw (tested, stepped, rw (tested, stepped) at e, probe)

    -- one that meets a set slot leaves one draw fewer
    pub probe_miss : {k : ℕ} → k < draws → is_set b n i ≡ true → probe b n g last (draws - k) ≡ probe b n g' i (draws - (k + 1))
    unfolding probe
    probe_miss {k} h e =
        let left : draws - k ≡ suc (draws - (k + 1)) = omega arith in
        rw (left, tested, stepped, rw (tested, stepped) at e, probe)

  -- after the last draw the next clear slot is taken
  pub probe_walk : {left r : ℕ} → left ≤ 0 → r ≡ next_clear b n last → probe b n g last left ≡ record { slot = r; generator = g }
  unfolding probe
  probe_walk {left = zero} h e = rw e
  probe_walk {left = suc k} h e = absurd (omega arith)
