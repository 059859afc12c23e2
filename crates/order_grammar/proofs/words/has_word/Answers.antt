use Rattle.std.proofs.Common.{sym, ap, ◌∙◌}
use Rattle.order_grammar.proofs.FirstLemmas.{begins_word, has_words-first}
use Rattle.order_grammar.proofs.words.has_word.Goals as goal

pub returns-in-Some : goal.returns-in-Some
returns-in-Some c =
    sym (ap begins_word c.in-Some.is) ∙ ap begins_word c.first_byte.ensures ∙ sym (has_words-first c.args.line.now)

pub returns-in-None : goal.returns-in-None
returns-in-None c =
    sym (ap begins_word c.in-None.is) ∙ ap begins_word c.first_byte.ensures ∙ sym (has_words-first c.args.line.now)
