-- `copies::clear` meets its contract: each call of the closure gave a zero.
use Rattle.std.proofs.Common.{◌∙◌, replicate, ap, rules}
use Rattle.copies.proofs.Zeros.{all_zero}
use Rattle.copies.proofs.clear.Goals as goal

pub returns : goal.returns
returns c =
    let ran = c.fill_with.ensures.ran in
    all_zero _ (λ f x g h. search rules) c.fill_with.new.self _ _ ran.1 ∙ ap (λ n. replicate n 0) c.fill_with.ensures.len
