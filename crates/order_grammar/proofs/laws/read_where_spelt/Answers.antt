use Rattle.order_grammar.specs.Form.{order_forms}
use Rattle.order_grammar.specs.Texts.{order_file}
use Rattle.order_grammar.proofs.SpellsLemmas.{read_spells, spells_read}
use Rattle.order_grammar.proofs.PartLemmas.{rows_of_orders}
use Rattle.order_grammar.proofs.laws.read_where_spelt.Goals as goal

pub returns : goal.returns
returns c = λ line order. (
  read_spells order_file order_forms rows_of_orders line order,
  spells_read order_file
      order_forms rows_of_orders line order,
)
