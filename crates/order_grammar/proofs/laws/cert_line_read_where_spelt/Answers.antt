use Rattle.order_grammar.specs.Form.{cert_forms}
use Rattle.order_grammar.specs.Texts.{certificate}
use Rattle.order_grammar.proofs.SpellsLemmas.{read_spells, spells_read}
use Rattle.order_grammar.proofs.PartLemmas.{rows_of_certificates}
use Rattle.order_grammar.proofs.laws.cert_line_read_where_spelt.Goals as goal

pub returns : goal.returns
returns c = λ line order. (
  read_spells certificate cert_forms rows_of_certificates line order,
  spells_read certificate
      cert_forms rows_of_certificates line order,
)
