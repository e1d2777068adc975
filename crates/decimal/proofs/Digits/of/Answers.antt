-- Digit by digit the number is spelled, and the last digit ends it.
use Rattle.std.proofs.Common.{arith}
use Rattle.decimal.proofs.Spelling.{spelled_more, spelled_all}
use Rattle.decimal.proofs.Digits.of.Goals as goal

pub loop-rest-preserved : goal.loop-rest-preserved
loop-rest-preserved c = spelled_more c.loop-rest.invariant (omega arith) c.glyph.ensures

pub returns : goal.returns
returns c = spelled_all c.loop-rest.invariant (omega arith) c.glyph-2.ensures
