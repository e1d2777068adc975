-- What is read of a word and the digits left spell its number.
use Rattle.std.proofs.Common.{◌≡◌, drop}
use Rattle.line.specs.Number.{with_digits}
use Rattle.line.proofs.number.of.Given as goal

abbrev pub invariant-loop-byte : goal.invariant-loop-byte
invariant-loop-byte l = with_digits 0 l.word ≡ with_digits l.n (drop l.byte-index l.word)
