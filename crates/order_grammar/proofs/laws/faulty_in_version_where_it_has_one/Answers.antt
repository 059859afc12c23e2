use Rattle.order_grammar.proofs.VersionLemmas.{fault_had_in, fault_read_in}
use Rattle.order_grammar.proofs.laws.faulty_in_version_where_it_has_one.Goals as goal

pub returns : goal.returns
returns c = λ version line fault. (fault_had_in version line fault, fault_read_in version line fault)
