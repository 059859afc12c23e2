use Rattle.std.proofs.Common.{◌∙◌, [], get_or, refl}
use Rattle.order_grammar.proofs.PrefixLemmas.{at_error, none_added, words_prefix, words_and_prefix}
use Rattle.order_grammar.proofs.print.print_names.Goals as goal

pub returns-in_err-push-clause-err : goal.returns-in_err-push-clause-err
returns-in_err-push-clause-err c =
    at_error c.from_residual.result (words_prefix _ _ c.args.names.now c.loop-name.name-index
    (c.in_err-push.ensures.items ∙ c.loop-name.invariant))

pub returns-in_err-extend_from_slice-clause-err : goal.returns-in_err-extend_from_slice-clause-err
returns-in_err-extend_from_slice-clause-err c =
    at_error c.from_residual-in_err-extend_from_slice.result
    (words_and_prefix _ c.loop-name.text.items c.push.new.self.items _ c.args.names.now c.loop-name.name-index
    (get_or c.args.names.now c.loop-name.name-index []) c.loop-name-test.true refl c.loop-name.invariant
    c.in_ok-push.ensures.items
    (none_added _ _ _ c.in_err-extend_from_slice.ensures.items))
