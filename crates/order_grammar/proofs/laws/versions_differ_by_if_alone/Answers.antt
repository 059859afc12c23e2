use Rattle.order_grammar.proofs.VersionLemmas.{same_without_if}
use Rattle.order_grammar.proofs.laws.versions_differ_by_if_alone.Goals as goal

pub returns : goal.returns
returns c = same_without_if
