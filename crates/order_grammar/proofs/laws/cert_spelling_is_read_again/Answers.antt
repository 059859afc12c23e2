use Rattle.std.proofs.Common.{arith}
use Rattle.order_grammar.specs.Form.{cert_forms}
use Rattle.order_grammar.specs.Texts.{certificate}
use Rattle.order_grammar.proofs.SpellingLemmas.{spelling_read}
use Rattle.order_grammar.proofs.PartLemmas.{rows_of_certificates}
use Rattle.order_grammar.proofs.laws.cert_spelling_is_read_again.Goals as goal

pub returns : goal.returns
returns c = spelling_read certificate cert_forms rows_of_certificates (omega arith)
