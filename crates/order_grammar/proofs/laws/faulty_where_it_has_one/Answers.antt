use Rattle.order_grammar.specs.Form.{order_forms}
use Rattle.order_grammar.specs.Texts.{order_file}
use Rattle.order_grammar.proofs.LineFaultLemmas.{fault_had, fault_read}
use Rattle.order_grammar.proofs.PartLemmas.{rows_of_orders}
use Rattle.order_grammar.proofs.laws.faulty_where_it_has_one.Goals as goal

pub returns : goal.returns
returns c = λ line fault. (
  fault_had order_file order_forms rows_of_orders line fault,
  fault_read order_file
      order_forms rows_of_orders line fault,
)
