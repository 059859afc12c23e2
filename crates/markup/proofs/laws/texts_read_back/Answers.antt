use Rattle.markup.proofs.TextLemmas.{reads_back}
use Rattle.markup.proofs.laws.texts_read_back.Goals as goal

pub returns : goal.returns
returns c = reads_back
