use Rattle.std.proofs.Common.{[], ◌∷◌, map}
use Rattle.std.proofs.lemmas.Result.{on_err_weaker}
use Rattle.map_tables.specs.Text.{text_of_place}
use Rattle.order_grammar.specs.declared.order.Value.TheVariants.{Kind}
use Rattle.order_grammar.proofs.PrefixLemmas.{at_error, words_first_prefix, words_then_prefix}
use Rattle.order_grammar.proofs.print.print_of_places.Goals as goal

pub returns-in_err-print_words-clause-err : goal.returns-in_err-print_words-clause-err
returns-in_err-print_words-clause-err c =
    at_error c.from_residual.result
    (words_first_prefix _ _ c.args.keyword (Kind c.args.kind ∷ []) (map text_of_place c.args.places.now)
    c.in_err-print_words.ensures.err)

pub returns-clause-err : goal.returns-clause-err
returns-clause-err c =
    on_err_weaker c.print_places.result
    (λ adds. words_then_prefix _ _ _ c.args.keyword (Kind c.args.kind ∷ []) (map text_of_place c.args.places.now)
    c.in_ok-print_words.ensures.ok adds)
    c.print_places.ensures.err
