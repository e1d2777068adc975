-- Rows as digits.
use Prim.Native.Nat.{ℕ, zero, suc, ◌+◌, ◌*◌, ◌/◌, ◌%◌, ◌^◌, ◌-◌, ◌≤◌, ◌<◌}
use native.Mathlib.Nat.{mul-zero, mul-le-mul_right, pow-suc, pow-succ', div-div-eq-div-mul, zero-div}
use native.Mathlib.Decide.{ℕ_discrete}
use native.Mathlib.Omega.{arith}
use mathlib.Core.Path.{◌≡◌, refl, sym, ap, ◌∙◌}
use mathlib.Core.Bool.{Bool, true, false, cond, true≢false}
use mathlib.Core.List.{List, [], ◌∷◌}
use lib.ListN.{length, get_or, take, drop, length-take, length-drop, drop_of_length-le}
use lib.Seq.{take_all, drop-cons, get_or-take, ext_get_or}
use lib.Dec.{eqb}
use borrow.Author.Tests.{eq-eqb, eqb-true}
use lib.Pow.{pow_mono}
use mir.Val.{bool_byte}
use Rattle.search.specs.Tabulate.{tabulate}
use Rattle.search.proofs.Tabulate.{tabulate_at, tabulate_length}
use Rattle.elect.specs.Leader.{most, digits, votes, mask_of, row_of}

-- all sixteen
pub all_of : (base : ℕ) (row : List Bool) → length row ≡ 16 → digits base (take 16 row) ≡ digits base row
all_of base row h = ap (digits base) (take_all 16 row (omega arith))

-- a digit is 0 or 1, as the code makes it
pub digit : (b : Bool) → (bool_byte b ≡ cond b 1 0) × (cond b 1 0 ≤ 1)
digit true = (refl, omega arith)
digit false = (refl, omega arith)

-- a row of n replicas is a number of n bits at most
digits_lt : (base : ℕ) (row : List Bool) → base ≤ 2 → digits base row < 2 ^ length row
unfolding digits
digits_lt base [] h = omega arith
digits_lt base (b ∷ row) h =
    let rest : digits base row < 2 ^ length row = digits_lt base row h in
    let twice : base * digits base row ≤ 2 * digits base row = mul-le-mul_right (digits base row) h in
    rw pow-suc (omega (arith, digit b))

-- a row that says yes to none, and one that does so after the first n
pub digits_none : (base : ℕ) (row : List Bool) → ((j : ℕ) → get_or row j false ≡ false) → digits base row ≡ 0
unfolding digits
digits_none base [] h = refl
digits_none base (b ∷ row) h = rw (h 0, digits_none base row (λ j. h (suc j)), mul-zero)

pub digits_front : (base : ℕ) (row : List Bool) (n : ℕ) → ((j : ℕ) → n ≤ j → get_or row j false ≡ false)
    → digits base (take n row) ≡ digits base row
unfolding digits
digits_front base [] zero h = refl
digits_front base [] (suc n) h = refl
digits_front base (b ∷ row) zero h = rw (digits_none base (b ∷ row) (λ j. h j (omega arith)))
digits_front base (b ∷ row) (suc n) h = rw (digits_front base row n (λ j l. h (suc j) (omega arith)))

-- ---- masks

-- bit r of the mask says whether replica r is in the row
mask_bit : (row : List Bool) (r : ℕ) → mask_of row / 2 ^ r % 2 ≡ cond (get_or row r false) 1 0
unfolding digits
mask_bit [] r = rw zero-div
mask_bit (b ∷ row) zero = omega (arith, digit b)
mask_bit (b ∷ row) (suc r) =
    let half : (cond b 1 0 + 2 * digits 2 row) / 2 ≡ digits 2 row = omega (arith, digit b) in
    rw (pow-succ', ← div-div-eq-div-mul, half) (mask_bit row r)

bit_set : (b : Bool) → eqb (cond b 1 0) 1 ≡ b
bit_set true = refl
bit_set false = refl

-- a row of all is that of its mask
pub row_mask : (row : List Bool) → length row ≡ most → row_of (mask_of row) ≡ row
row_mask row size =
    let bit : ℕ → Bool = λ r. eqb (mask_of row / 2 ^ r % 2) 1 in
    ext_get_or false (row_of (mask_of row)) row (tabulate_length bit 0 most ∙ sym size)
    (λ r l.
    tabulate_at bit false most r (omega (arith, tabulate_length bit 0 most))
    ∙ ap (λ (n : ℕ). eqb n 1) (mask_bit row r)
    ∙ bit_set (get_or row r false))

-- the mask of a row that says yes to none after the first n has n bits
pub mask_lt : (row : List Bool) (n : ℕ) → ((j : ℕ) → n ≤ j → get_or row j false ≡ false) → mask_of row < 2 ^ n
mask_lt row n h =
    let few : 2 ^ length (take n row) ≤ 2 ^ n = pow_mono (simp length-take (omega arith)) in
    omega (arith, digits_front 2 row n h, digits_lt 2 (take n row) (omega arith))

-- ---- votes

-- two truths that are never both so, and only where a third is
pub record Apart (s t u : Bool) : Type 0 where
  pub never : s ≡ true → t ≡ true → ⊥
  pub first : s ≡ true → u ≡ true
  pub second : t ≡ true → u ≡ true

apart_le : (s t u : Bool) → Apart s t u → cond s 1 0 + cond t 1 0 ≤ cond u 1 0
apart_le true true u a = absurd (a.never refl refl)
apart_le true false u a = rw (a.first refl) (omega arith)
apart_le false true u a = rw (a.second refl) (omega arith)
apart_le false false u a = omega arith

-- the votes of two tests that are apart are no more than those of the third
pub votes_apart : {f g h : ℕ → Bool} → ((j : ℕ) → Apart (f j) (g j) (h j)) → (i n : ℕ)
    → votes (tabulate f i n) + votes (tabulate g i n) ≤ votes (tabulate h i n)
unfolding digits tabulate
votes_apart each i zero = omega arith
votes_apart {f} {g} {h} each i (suc n) =
    omega (arith, apart_le (f i) (g i) (h i) (each i), votes_apart each (suc i) n)

-- so a test that passes only where another does has no more votes
pub votes_le : {f h : ℕ → Bool} → ((j : ℕ) → f j ≡ true → h j ≡ true) → (i n : ℕ) → votes (tabulate f i n) ≤ votes (tabulate h i n)
votes_le {f} {h} each i n =
    let apart = votes_apart {f = f} {g = λ _. false} {h = h}
    (λ j. record { never = λ a b. true≢false (sym b); first = each j; second = λ b. absurd (true≢false (sym b)) }) i n in
    omega arith

-- a test that passes at one of n numbers has a vote, and one that passes at two has two
votes_one : (f : ℕ → Bool) (i n r : ℕ) → i ≤ r → r < i + n → f r ≡ true → 1 ≤ votes (tabulate f i n)
unfolding digits tabulate
votes_one f i zero r l m e = absurd (omega arith)
votes_one f i (suc n) r l m e = elim (ℕ_discrete i r) [
  | yes q ↦ rw (q, e) (omega arith)
  | no q ↦ omega (arith, votes_one f (suc i) n r (omega arith) (omega arith) e)
]

pub votes_two : (f : ℕ → Bool) (n r s : ℕ) → r < n → s < n → (r ≡ s → ⊥) → f r ≡ true → f s ≡ true → 2 ≤ votes (tabulate f 0 n)
votes_two f n r s l m apart p q =
    let one = votes_one (λ j. eqb j r) 0 n r (omega arith) (omega arith) (eq-eqb r r refl) in
    let other = votes_one (λ j. eqb j s) 0 n s (omega arith) (omega arith) (eq-eqb s s refl) in
    omega (arith, votes_apart {f = λ j. eqb j r} {g = λ j. eqb j s} {h = f} each 0 n)
  where
    each : (j : ℕ) → Apart (eqb j r) (eqb j s) (f j)
    each j =
        record {
          never = λ a b. apart (sym (eqb-true j r a) ∙ eqb-true j s b);
          first = λ a. rw (eqb-true j r a) p;
          second = λ b. rw (eqb-true j s b) q;
        }

-- ---- the loop that sums them up

-- the digits of the first n of a row, from replica i on
pub record Summed (base : ℕ) (row : List Bool) (n sum i : ℕ) : Type 0 where
  pub within : i ≤ n
  pub so_far : sum ≡ digits base (drop i (take n row))

module _ {base : ℕ} {row : List Bool} {n : ℕ} where
  -- none summed yet
  pub summed_none : Summed base row n 0 n
  unfolding digits
  summed_none =
      let l : length (take n row) ≤ n = simp length-take (omega arith) in
      record { within = omega arith; so_far = rw (drop_of_length-le (take n row) l) }

  module _ {sum i : ℕ} (s : Summed base row n sum i) where
    -- the next sum fits
    pub summed_fits : base ≤ 2 → n ≤ 16 → base * sum + 1 < 2 ^ 32
    summed_fits h l =
        let few : 2 ^ length (drop i (take n row)) ≤ 2 ^ 16 =
        pow_mono {j = 16} (simp (length-drop, length-take) (omega arith)) in
        let twice : base * sum ≤ 2 * sum = mul-le-mul_right sum h in
        omega (arith, digits_lt base (drop i (take n row)) h, s.so_far)

    -- one digit more
    pub summed_more : 0 < i → n ≤ length row → Summed base row n (bool_byte (get_or row (i - 1) false) + base * sum) (i - 1)
    unfolding digits
    summed_more h f =
        let l : i - 1 < length (take n row) = simp length-take (omega (arith, s.within)) in
        let p : suc (i - 1) ≡ i = omega arith in
        let next : drop (i - 1) (take n row) ≡ get_or row (i - 1) false ∷ drop i (take n row) =
        drop-cons (take n row) (i - 1) false l
        ∙ rw (p, get_or-take n row (i - 1) false (omega (arith, s.within))) in
        record { within = omega (arith, s.within); so_far = rw (next, (digit (get_or row (i - 1) false)).0, s.so_far) }
