-- Digits spelled from the lowest up, towards the front of an array.
use Rattle.std.proofs.Common.{◌≡◌, ℕ, zero, suc, ◌+◌, ◌-◌, ◌/◌, ◌%◌, ◌^◌, ◌≤◌, ◌<◌, List, [], ◌∷◌, ◌++◌, length, drop, refl, ◌∙◌, append_assoc, arith}
use Rattle.std.proofs.Math.ListN.{set, length-set}
use Rattle.std.proofs.lemmas.List.{drop-set}
use native.Mathlib.Nat.{div-lt_iff_lt-mul, pow-suc}
use borrow.Author.Tests.{lt-ltb, le-ltb}
use lib.Dec.{lit<}
use Rattle.decimal.specs.Decimal.{width, decimal_in, decimal}

-- a number of one digit
pub one_digit : (k n : ℕ) → n < 10 → decimal_in k n ≡ (48 + n) ∷ []
unfolding decimal_in
one_digit zero n h = refl
one_digit (suc k) n h = rw (lt-ltb n 10 h, decimal_in)

-- the lowest digit stands after the others
pub more_digits : (k n : ℕ) → 9 < n → decimal_in (suc k) n ≡ decimal_in k (n / 10) ++ ((48 + n % 10) ∷ [])
unfolding decimal_in
more_digits k n h = rw (le-ltb n 10 h, decimal_in)

-- the digits after place `start` are spelled, and `rest` is what they leave of n
pub record Spelled (n : ℕ) (text : List ℕ) (start rest : ℕ) : Type 0 where
  pub number : decimal n ≡ decimal_in start rest ++ drop (start + 1) text
  pub within : start < length text
  pub size : length text ≡ width
  pub small : rest < 10 ^ suc start

-- the last digit
pub spelled_all : {n : ℕ} {text : List ℕ} {start rest g : ℕ} → Spelled n text start rest → rest ≤ 9 → g ≡ 48 + rest
    → drop start (set text start g) ≡ decimal n
spelled_all {text = text} {start} {rest} {g} s h e =
    rw (drop-set text start g s.within, s.number, one_digit start rest (omega arith), e)

-- one digit more, where there is more than one left
pub spelled_more : {n : ℕ} {text : List ℕ} {start rest g : ℕ} → Spelled n text start rest → 9 < rest → g ≡ 48 + rest % 10
    → Spelled n (set text start g) (start - 1) (rest / 10)
spelled_more {start = zero} s h e = absurd (omega arith)
spelled_more {text = text} {start = suc k} {rest} {g} s h e =
    let before : suc k - 1 ≡ k = omega arith in
    let place : k + 1 ≡ suc k = omega arith in
    let digits = append_assoc (decimal_in k (rest / 10)) ((48 + rest % 10) ∷ []) (drop (suc k + 1) text) in
    rw before
    (record {
      number = rw (place, drop-set text (suc k) g s.within, e) (s.number ∙ rw (more_digits k rest h) digits);
      within = rw length-set (omega arith);
      size = rw length-set s.size;
      small = (div-lt_iff_lt-mul (lit< tt)).1 (rw pow-suc at s.small);
    })
