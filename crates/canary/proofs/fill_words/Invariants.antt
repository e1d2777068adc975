-- `fill_words` meets its contract. The loop's invariant: whole canaries up to a word, and then the bytes as they were.
use Prim.Native.Nat.{◌*◌}
use Rattle.canary.specs.Canary.{canary_byte}
use Rattle.canary.proofs.Filling.{Front}
use Rattle.canary.proofs.fill_words.Given as goal

abbrev pub invariant-loop-word : goal.invariant-loop-word
invariant-loop-word l =
    Front (canary_byte l.canary) l.initial.bytes l.bytes (4 * l.word)
