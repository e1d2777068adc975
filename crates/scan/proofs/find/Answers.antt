-- The part is looked at as far as it is there, and one that starts behind its end is empty.
use Rattle.std.proofs.Common.{ℕ, ◌+◌, ◌-◌, ◌<◌, ◌==◌, min, length, take, drop, ap, arith, rules}
use Rattle.std.proofs.lemmas.List.Sums.{position_or_len_is}
use Rattle.scan.proofs.Finding.{find_in, find_nothing}
use Rattle.scan.proofs.find.Goals as goal

pub returns-then-end-from-clause-place : goal.returns-then-end-from-clause-place
returns-then-end-from-clause-place c =
    let a = c.args in
    let short : min a.to (length a.bytes.now) < a.from = omega arith in
    omega (arith, find_nothing a.byte a.bytes.now a.from a.to short)

pub returns-in-Some-clause-place : goal.returns-in-Some-clause-place
returns-in-Some-clause-place c =
    let a = c.args in
    let part = take (c.min-end.result - a.from) (drop a.from a.bytes.now) in
    let found = position_or_len_is (λ (b : ℕ). b == a.byte) part c.in-Some.index 0 (search rules) (search rules) (search rules) in
    ap (λ i. a.from + i) (find_in a.byte a.bytes.now a.from a.to c.min-end.ensures (omega arith) found)

pub returns-in-None-clause-place : goal.returns-in-None-clause-place
returns-in-None-clause-place c =
    let a = c.args in
    let part = take (c.min-end.result - a.from) (drop a.from a.bytes.now) in
    let none = position_or_len_is (λ (b : ℕ). b == a.byte) part (length part) 0 (omega arith) (search rules) (search rules) in
    omega (arith, find_in a.byte a.bytes.now a.from a.to c.min-end.ensures (omega arith) none)
