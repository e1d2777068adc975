-- Which values of a half freeze: the multiples of its modulus, and no others.
use Rattle.std.proofs.Common.{◌≡◌, ℕ, zero, suc, ◌*◌, ◌/◌, ◌%◌, ◌^◌, ◌<◌, Bool, true, false, ◌&&◌, ◌||◌, eqb, ◌↔◌, List, [], ◌∷◌, sym, refl, ◌∙◌, subst, inl, inr, true≢false, arith, ne_eqb, eqb-true}
use Prim.Native.Nat.{◌∣◌}
use mathlib.Core.Bool.{or-true}
use native.Mathlib.Nat.{dvd-zero, dvd_of_mod-eq-zero, mul-div_cancel'}
use Rattle.mwc.specs.declared.Generator.{Generator}
use Rattle.mwc.specs.Draw.{step, next, frozen_z, frozen_w, is_one_of, is_unusable}
use Rattle.mwc.specs.Freezing.{after, Stopped, Freezes, EitherFreezes, FreezesAt}
use Rattle.mwc.proofs.Examples.{seeds, never}
use Rattle.mwc.proofs.Modulus.{modulus, divides_before, divides_fixed}

-- ---- one of a list

unfoldable every : (ℕ → Bool) → List ℕ → Bool
every test [] = true
every test (value ∷ values) = test value && every test values

passes : (test : ℕ → Bool) (values : List ℕ) (x : ℕ) → every test values ≡ true → is_one_of values x ≡ true
    → test x ≡ true
unfolding every is_one_of
passes test [] x all one = absurd (true≢false (sym one))
passes test (value ∷ values) x all one = go (eqb x value) (test value) refl refl all one (passes test values x)
  where
    go : (t u : Bool) → eqb x value ≡ t → test value ≡ u → u && every test values ≡ true → t || is_one_of values x ≡ true
        → (every test values ≡ true → is_one_of values x ≡ true → test x ≡ true) → test x ≡ true
    go true true e f all one rest = rw (eqb-true x value e) f
    go false true e f all one rest = rest all one
    go true false e f all one rest = absurd (true≢false (sym all))
    go false false e f all one rest = absurd (true≢false (sym all))

-- ---- a half

-- what is computed of a half with multiplier a: an inverse u of 65,535 modulo its modulus, that the multiples of the
-- modulus below 2 ^ 32 are zero and the values listed, and that a second draw leaves these as the first made them
record Computed (a : ℕ) (values : List ℕ) : Type 0 where
  some : 0 < a
  u : ℕ
  v : ℕ
  inverse : u * 65535 ≡ suc (v * modulus a)
  listed : (k : ℕ) → modulus a * k < 2 ^ 32 → is_one_of (0 ∷ values) (modulus a * k) ≡ true
  divided : every (λ x. eqb (x % modulus a) 0) (0 ∷ values) ≡ true
  settled : every (λ x. eqb (step a (step a x)) (step a x)) values ≡ true

module _ {a : ℕ} {values : List ℕ} (c : Computed a values) where
  multiple : (x : ℕ) → x < 2 ^ 32 → modulus a ∣ x → is_one_of (0 ∷ values) x ≡ true
  multiple x small h =
      let e : modulus a * (x / modulus a) ≡ x = mul-div_cancel' (modulus a) h in
      subst (λ n. is_one_of (0 ∷ values) n ≡ true) e (c.listed (x / modulus a) (omega arith))

  remainder_tells : (x : ℕ) → x < 2 ^ 32 → eqb (x % modulus a) 0 ≡ is_one_of (0 ∷ values) x
  remainder_tells x small = go (eqb (x % modulus a) 0) (is_one_of (0 ∷ values) x) refl refl
    where
      go : (t u : Bool) → eqb (x % modulus a) 0 ≡ t → is_one_of (0 ∷ values) x ≡ u → t ≡ u
      go true true e f = refl
      go false false e f = refl
      go true false e f = sym (multiple x small (dvd_of_mod-eq-zero (modulus a) (eqb-true _ _ e))) ∙ f
      go false true e f = sym e ∙ passes (λ n. eqb (n % modulus a) 0) (0 ∷ values) x c.divided f

  module _ (half : Generator → ℕ) (drawn : (g : Generator) → half (next g) ≡ step a (half g)) where
    divides_stopped : (g : Generator) → Stopped half g → modulus a ∣ half g
    divides_stopped g (inl e) = rw e (dvd-zero (modulus a))
    divides_stopped g (inr e) = divides_fixed a c.some c.u c.v c.inverse (half g) (sym (drawn g) ∙ e)

    divides_start : (n : ℕ) (g : Generator) → modulus a ∣ half (after n g) → modulus a ∣ half g
    unfolding after
    divides_start zero g h = h
    divides_start (suc n) g h =
        divides_start n g (divides_before a c.some (half (after n g)) (rw (drawn (after n g)) at h))

    settles : (g : Generator) → is_one_of values (half g) ≡ true → Stopped half (after 1 g)
    unfolding after
    settles g one =
        let same : eqb (step a (step a (half g))) (step a (half g)) ≡ true =
        passes (λ x. eqb (step a (step a x)) (step a x)) values (half g) c.settled one in
        inr (drawn (next g) ∙ rw (drawn g) (eqb-true _ _ same))

    -- zero among the values
    freezes : (g : Generator) → half g < 2 ^ 32 → Freezes half g ↔ (is_one_of (0 ∷ values) (half g) ≡ true)
    unfolding after is_one_of
    freezes g small = (divisible, go (eqb (half g) 0) refl)
      where
        divisible : Freezes half g → is_one_of (0 ∷ values) (half g) ≡ true
        divisible f = multiple (half g) small (divides_start f.0 g (divides_stopped (after f.0 g) f.1))

        go : (t : Bool) → eqb (half g) 0 ≡ t → is_one_of (0 ∷ values) (half g) ≡ true → Freezes half g
        go true e one = (0, inl (eqb-true (half g) 0 e))
        go false e one = (1, settles g (rw e at one))

    freezes_at : FreezesAt values half
    unfolding is_one_of
    freezes_at =
        record {
          exactly = λ g some small. (λ f. beside g some ((freezes g small).0 f), λ one. (1, settles g one));
          soon = settles;
        }
      where
        beside : (g : Generator) → 0 < half g → is_one_of (0 ∷ values) (half g) ≡ true → is_one_of values (half g) ≡ true
        beside g some one = rw (ne_eqb (half g) 0 (λ e. omega arith)) at one

-- ---- z and w

computed_z : Computed 36969 frozen_z
unfolding is_one_of every
computed_z =
    record {
      some = omega arith;
      u = 134_680_122;
      v = 3_643;
      inverse = refl;
      listed = listed;
      divided = refl;
      settled = refl;
    }
  where
    listed : (k : ℕ) → modulus 36969 * k < 2 ^ 32 → is_one_of (0 ∷ frozen_z) (modulus 36969 * k) ≡ true
    listed zero h = refl
    listed (suc zero) h = refl
    listed (suc (suc k)) h = absurd (omega arith)

computed_w : Computed 18000 frozen_w
unfolding is_one_of every
computed_w =
    record {
      some = omega arith;
      u = 842_970_862;
      v = 46_831;
      inverse = refl;
      listed = listed;
      divided = refl;
      settled = refl;
    }
  where
    listed : (k : ℕ) → modulus 18000 * k < 2 ^ 32 → is_one_of (0 ∷ frozen_w) (modulus 18000 * k) ≡ true
    listed zero h = refl
    listed (suc zero) h = refl
    listed (suc (suc zero)) h = refl
    listed (suc (suc (suc zero))) h = refl
    listed (suc (suc (suc (suc k)))) h = absurd (omega arith)

-- what the code answers once it has tested z, and then w
pub unusable_by_z : (g : Generator) {t : Bool} → g.z < 2 ^ 32 → t ≡ eqb (g.z % modulus 36969) 0 → t ≡ true
    → t ≡ is_unusable g
unusable_by_z g small e taken = taken ∙ rw (← remainder_tells computed_z g.z small, ← e, taken)

pub unusable_by_w : (g : Generator) {t u : Bool} → g.z < 2 ^ 32 → g.w < 2 ^ 32
    → t ≡ eqb (g.z % modulus 36969) 0 → t ≡ false → u ≡ eqb (g.w % modulus 18000) 0 → u ≡ is_unusable g
unusable_by_w g small-z small-w e left f =
    rw (← remainder_tells computed_z g.z small-z, ← e, left, ← remainder_tells computed_w g.w small-w) f

-- ---- the theorems

pub z_freezes : FreezesAt frozen_z (λ g. g.z)
z_freezes = freezes_at computed_z (λ g. g.z) (λ g. refl)

pub w_freezes : FreezesAt frozen_w (λ g. g.w)
w_freezes = freezes_at computed_w (λ g. g.w) (λ g. refl)

-- what is refused are the seeds of which a half freezes, zero among these
pub unusable_freezes : (g : Generator) → g.z < 2 ^ 32 → g.w < 2 ^ 32 → (is_unusable g ≡ true) ↔ EitherFreezes g
unusable_freezes g small-z small-w = (go (is_one_of (0 ∷ frozen_z) g.z) refl, back)
  where
    z : Freezes (λ g. g.z) g ↔ (is_one_of (0 ∷ frozen_z) g.z ≡ true)
    z = freezes computed_z (λ g. g.z) (λ g. refl) g small-z

    w : Freezes (λ g. g.w) g ↔ (is_one_of (0 ∷ frozen_w) g.w ≡ true)
    w = freezes computed_w (λ g. g.w) (λ g. refl) g small-w

    go : (t : Bool) → is_one_of (0 ∷ frozen_z) g.z ≡ t → t || is_one_of (0 ∷ frozen_w) g.w ≡ true → EitherFreezes g
    go true e f = inl (z.1 e)
    go false e f = inr (w.1 f)

    back : EitherFreezes g → is_unusable g ≡ true
    back (inl f) = rw (z.0 f) refl
    back (inr f) = rw (w.0 f) (or-true (is_one_of (0 ∷ frozen_z) g.z))

-- ---- examples

-- the least and the last z never freeze, nor does the w that is listed for z
least : Freezes (λ g. g.z) (seeds 1 1) → ⊥
unfolding is_one_of
least = never z_freezes (seeds 1 1) (omega arith) (omega arith) refl

last : Freezes (λ g. g.z) (seeds 0xffff_ffff 1) → ⊥
unfolding is_one_of
last = never z_freezes (seeds 0xffff_ffff 1) (omega arith) (omega arith) refl

other : Freezes (λ g. g.w) (seeds 1 0x9068_ffff) → ⊥
unfolding is_one_of
other = never w_freezes (seeds 1 0x9068_ffff) (omega arith) (omega arith) refl

-- near miss: w's list with that value
one_more : FreezesAt (0x9068_ffff ∷ frozen_w) (λ g. g.w) → ⊥
unfolding is_one_of
one_more at = other ((at.exactly (seeds 1 0x9068_ffff) (omega arith) (omega arith)).1 refl)

-- a listed value has stopped after the first draw
one_draw : (g : Generator) → is_one_of frozen_w g.w ≡ true → Stopped (λ g. g.w) (next g)
unfolding after
one_draw = w_freezes.soon
