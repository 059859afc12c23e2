use Rattle.map_tables.proofs.Texts.{texts_read}
use Rattle.map_tables.proofs.laws.texts_are_read.Goals as goal

pub returns : goal.returns
returns c = texts_read
