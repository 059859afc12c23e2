use Rattle.order_grammar.proofs.VersionLemmas.{read_spells_in, spells_read_in}
use Rattle.order_grammar.proofs.laws.read_in_version_where_spelt.Goals as goal

pub returns : goal.returns
returns c = λ version line spelt. (read_spells_in version line spelt, spells_read_in version line spelt)
