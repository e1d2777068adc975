-- Which seeds an opening refuses: those of which a half freezes.
use Rattle.std.specs.Prelude.{Ok, Err}
use Prim.Native.Nat.{ℕ, ◌^◌, ◌<◌}
use mathlib.Core.Path.{◌≡◌, refl, ap}
use mathlib.Core.Logic.{◌↔◌}
use mathlib.Core.Bool.{Bool, true, false}
use mathlib.Core.List.{List}
use native.Mathlib.Omega.{arith}
use lib.ListN.{length}
use Rattle.mwc.specs.Draw.{is_unusable}
use Rattle.mwc.specs.Freezing.{EitherFreezes}
use Rattle.mwc.proofs.Freezing.{unusable_freezes}
use Rattle.geometry.specs.declared.Layout.{Layout}
use Rattle.answer.specs.declared.Refusal.TheVariants.{UnusableSeed}
use Rattle.answer.specs.declared.Reply.{Reply}
use Rattle.answer.specs.Reply.{refused_by}
use Rattle.answer.proofs.Numbers.{refusal_number}
use Rattle.judge.specs.Judge.{lengths, Judged}
use Rattle.rules.specs.Open.{Setup}
use Rattle.rules.specs.Call.{opening}
use Rattle.rules.proofs.Serving.{opening_unfit, opening_unusable, opening_served}

module _ (n : ℕ) (m : List ℕ) (s : Setup) (small-z : s.seeds.z < 2 ^ 32) (small-w : s.seeds.w < 2 ^ 32) where
  frozen : (is_unusable s.seeds ≡ true) ↔ EitherFreezes s.seeds
  frozen = unusable_freezes s.seeds small-z small-w

  -- where the lengths are right
  pub seeds_refused : {G : Layout} → lengths n (length m) ≡ Ok G
      → ((opening n m s).answer ≡ refused_by UnusableSeed) ↔ EitherFreezes s.seeds
  seeds_refused laid =
      (λ e. frozen.0 (go (is_unusable s.seeds) refl e), λ f. rw (opening_unusable n m s laid (frozen.1 f)) refl)
    where
      go : (t : Bool) → is_unusable s.seeds ≡ t → (opening n m s).answer ≡ refused_by UnusableSeed
          → is_unusable s.seeds ≡ true
      go true q e = q
      go false q e =
          let zero : ◌≡◌ {A = ℕ} 0 1 = ap (λ (r : Reply). r.number) (rw (opening_served n m s laid q) at e) in
          absurd (omega arith)

  -- and so what was opened never freezes
  pub opened_never : (opening n m s).answer.number ≡ 0 → EitherFreezes s.seeds → ⊥
  opened_never e f = go (lengths n (length m)) refl
    where
      go : (j : Judged) → lengths n (length m) ≡ j → ⊥
      go (Err r) q = refusal_number r (rw (opening_unfit n m s q) at e)
      go (Ok G) q = refusal_number UnusableSeed (rw (opening_unusable n m s q (frozen.1 f)) at e)
