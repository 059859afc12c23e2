use Rattle.order_grammar.specs.Form.{cert_forms}
use Rattle.order_grammar.specs.Texts.{certificate}
use Rattle.order_grammar.proofs.LineFaultLemmas.{fault_had, fault_read}
use Rattle.order_grammar.proofs.PartLemmas.{rows_of_certificates}
use Rattle.order_grammar.proofs.laws.cert_line_faulty_where_it_has_one.Goals as goal

pub returns : goal.returns
returns c = λ line fault. (
  fault_had certificate cert_forms rows_of_certificates line fault,
  fault_read certificate
      cert_forms rows_of_certificates line fault,
)
