use Rattle.std.proofs.Common.{sym, ◌∙◌}
use Rattle.order_grammar.proofs.LineLemmas.{within_version}
use Rattle.order_grammar.proofs.read.read_order_in.Goals as goal

pub returns : goal.returns
returns c =
    c.read_words.ensures
    ∙ within_version c.args.version c.args.line.now c.in_ok-words.words (sym c.in_ok-words.was ∙ c.words_within.ensures)
