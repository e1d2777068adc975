-- `Metadata::word` meets its contract: the word ends within the fields.
use Rattle.words.proofs.Stored.{word_taken}
use mathlib.Core.Path.{◌∙◌}
use Rattle.heap.proofs.lent.Metadata.word.Goals as goal

pub returns : goal.returns
returns c = c.get.ensures ∙ word_taken _ _ _ c.requires
