use Rattle.std.proofs.Common.{Option, codes, ap, sym, subst}
use Rattle.std.specs.Option.{option_copied}
use Rattle.order_grammar.specs.Condition.{condition_values}
use Rattle.order_grammar.specs.Print.{AddsPrefix, condition_text, words_text}
use Rattle.order_grammar.specs.declared.condition.Condition.{Condition}
use Rattle.order_grammar.specs.declared.keyword.Keyword.TheVariants.{If}
use Rattle.order_grammar.proofs.PrefixLemmas.{at_error, prefix_of_first}
use Rattle.order_grammar.proofs.print.print_condition.Goals as goal

pub returns-in_err-print_words_of_condition-clause-err : goal.returns-in_err-print_words_of_condition-clause-err
returns-in_err-print_words_of_condition-clause-err c =
    let old = c.args.text.now.items in
    let new = c.print_words_of_condition.new.text.items in
    at_error c.from_residual.result
    (subst (λ (one : Option Condition). AddsPrefix old new (condition_text one)) (sym (ap option_copied c.in-Some.is))
    (prefix_of_first old new (words_text If (condition_values c.in-Some.condition.now)) (codes " ")
    c.in_err-print_words_of_condition.ensures.err))
