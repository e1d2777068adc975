-- `fill_words` meets its contract. The loop's invariant: whole canaries up to a word, and then the bytes as they were.
use Prim.Native.Nat.{ℕ, ◌*◌, ◌/◌}
use mathlib.Core.Path.{◌≡◌}
use native.Mathlib.Omega.{arith}
use lib.ListN.{length}
use Rattle.canary.specs.Canary.{canary_byte}
use Rattle.words.specs.Word.{bytes_of}
use Rattle.canary.proofs.Filling.{front_none, front_all, word_more, text_size, text_more}
use Rattle.canary.proofs.fill_words.Goals as goal

pub loop-word-init : goal.loop-word-init
loop-word-init c = front_none _ _

pub loop-word-preserved : goal.loop-word-preserved
loop-word-preserved c =
    let loop = c.loop-word in
    let a = c.args in
    let wrote = rw c.to_le_bytes-four.ensures at c.copy_from_slice.ensures.after in
    word_more a.canary a.bytes.now (4 * loop.word) (omega arith) (omega arith) loop.invariant wrote

pub returns : goal.returns
returns c =
    let loop = c.loop-word in
    let a = c.args in
    let at : ℕ = 4 * (length a.bytes.now / 4) in
    let last : 4 * loop.word ≡ at = omega arith in
    let front = rw last at loop.invariant in
    let wrote = rw c.to_le_bytes-four.ensures at c.write.ensures in
    let size = text_size (bytes_of a.canary) a.bytes.now loop.bytes at loop.auto.bytes (omega arith) wrote in
    let more = text_more (bytes_of a.canary) a.bytes.now loop.bytes at loop.auto.bytes (omega arith) wrote (omega arith) front in
    front_all (canary_byte a.canary) a.bytes.now _ more (omega (arith, size))
