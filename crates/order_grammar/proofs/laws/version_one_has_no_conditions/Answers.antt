use Rattle.order_grammar.proofs.VersionLemmas.{one_is_as_it_was}
use Rattle.order_grammar.proofs.laws.version_one_has_no_conditions.Goals as goal

pub returns : goal.returns
returns c = one_is_as_it_was
