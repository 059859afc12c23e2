use Rattle.order_grammar.proofs.UnderLemmas.{spelling_read_in}
use Rattle.order_grammar.proofs.laws.conditional_spelling_is_read_again.Goals as goal

pub returns : goal.returns
returns c = spelling_read_in
