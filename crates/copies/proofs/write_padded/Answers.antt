-- `copies::write_padded` meets its contract: the text, and then zeros up to the count or the room.
use Rattle.copies.proofs.Contents.{padded_put}
use Rattle.copies.proofs.write_padded.Goals as goal

pub returns : goal.returns
returns c =
    let a = c.args in
    padded_put a.source.now a.count a.target.now c.min-room.ensures c.min-seen.ensures c.find_zero-text.ensures
    c.write.ensures.1 c.clear.ensures
