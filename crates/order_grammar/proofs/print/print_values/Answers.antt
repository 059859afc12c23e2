use Rattle.std.proofs.Common.{◌∙◌, [], map, sym, ap, arith}
use Rattle.std.proofs.lemmas.List.{length-map, get_or-map}
use Rattle.order_grammar.specs.Print.{text_of_value}
use Rattle.order_grammar.proofs.PrefixLemmas.{at_error, words_prefix, words_and_prefix, words_more}
use Rattle.order_grammar.proofs.print.print_values.Goals as goal

pub returns-in_err-push-clause-err : goal.returns-in_err-push-clause-err
returns-in_err-push-clause-err c =
    at_error c.from_residual.result
    (words_prefix _ _ (map text_of_value c.args.values.now) c.loop-value.value-index
    (c.in_err-push.ensures.items ∙ c.loop-value.invariant))

pub returns-in_err-print_value-clause-err : goal.returns-in_err-print_value-clause-err
returns-in_err-print_value-clause-err c =
    let values = c.args.values.now in
    let i = c.loop-value.value-index in
    let word = c.value-item.result in
    at_error c.from_residual-in_err-print_value.result
    (words_and_prefix _ c.loop-value.text.items c.push.new.self.items _ (map text_of_value values) i
    (text_of_value word) (omega (arith, length-map values text_of_value, c.loop-value-test.true))
    (ap text_of_value c.value-item.is ∙ sym (get_or-map text_of_value values i word [] c.loop-value-test.true))
    c.loop-value.invariant c.in_ok-push.ensures.items
    c.in_err-print_value.ensures.err)

pub loop-value-preserved : goal.loop-value-preserved
loop-value-preserved c =
    let values = c.args.values.now in
    let i = c.loop-value.value-index in
    let word = c.value-item.result in
    words_more _ c.loop-value.text.items c.push.new.self.items _ (map text_of_value values) i (text_of_value word)
    (omega (arith, length-map values text_of_value, c.loop-value-test.true))
    (ap text_of_value c.value-item.is ∙ sym (get_or-map text_of_value values i word [] c.loop-value-test.true))
    c.loop-value.invariant
    c.in_ok-push.ensures.items
    c.in_ok-print_value.ensures.ok
