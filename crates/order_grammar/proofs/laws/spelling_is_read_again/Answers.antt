use Rattle.std.proofs.Common.{arith}
use Rattle.order_grammar.specs.Form.{order_forms}
use Rattle.order_grammar.specs.Texts.{order_file}
use Rattle.order_grammar.proofs.SpellingLemmas.{spelling_read}
use Rattle.order_grammar.proofs.PartLemmas.{rows_of_orders}
use Rattle.order_grammar.proofs.laws.spelling_is_read_again.Goals as goal

pub returns : goal.returns
returns c = spelling_read order_file order_forms rows_of_orders (omega arith)
