use Rattle.std.proofs.Common.{[]}
use Rattle.order_grammar.specs.declared.keyword.Keyword.TheVariants.{Players}
use Rattle.order_grammar.proofs.PrefixLemmas.{at_error, words_first_prefix}
use Rattle.order_grammar.proofs.print.print_players.Goals as goal

pub returns-in_err-print_words-clause-err : goal.returns-in_err-print_words-clause-err
returns-in_err-print_words-clause-err c =
    at_error c.from_residual.result
    (words_first_prefix _ _ Players [] c.args.names.now c.in_err-print_words.ensures.err)
