use Rattle.std.proofs.Common.{◌∙◌, [], get_or, map, refl, sym, arith}
use Rattle.std.proofs.lemmas.List.{length-map, get_or-map}
use Rattle.map_tables.specs.Text.{text_of_place}
use Rattle.order_grammar.proofs.PrefixLemmas.{at_error, none_added, words_prefix, words_and_prefix, words_more}
use Rattle.order_grammar.proofs.print.print_places.Goals as goal

pub returns-in_err-push-clause-err : goal.returns-in_err-push-clause-err
returns-in_err-push-clause-err c =
    at_error c.from_residual.result
    (words_prefix _ _ (map text_of_place c.args.places.now) c.loop-place.place-index
    (c.in_err-push.ensures.items ∙ c.loop-place.invariant))

pub returns-in_err-print_place-clause-err : goal.returns-in_err-print_place-clause-err
returns-in_err-print_place-clause-err c =
    let places = c.args.places.now in
    let words = map text_of_place places in
    let i = c.loop-place.place-index in
    at_error c.from_residual-in_err-print_place.result
    (words_and_prefix _ c.loop-place.text.items c.push.new.self.items _ words i (get_or words i [])
    (omega (arith, length-map places text_of_place, c.loop-place-test.true)) refl c.loop-place.invariant
    c.in_ok-push.ensures.items
    (none_added _ _ _ c.in_err-print_place.ensures.err))

pub loop-place-preserved : goal.loop-place-preserved
loop-place-preserved c =
    let places = c.args.places.now in
    let i = c.loop-place.place-index in
    words_more _ c.loop-place.text.items c.push.new.self.items _ (map text_of_place places) i
    (text_of_place (get_or places i _))
    (omega (arith, length-map places text_of_place, c.loop-place-test.true))
    (sym (get_or-map text_of_place places i _ [] c.loop-place-test.true))
    c.loop-place.invariant c.in_ok-push.ensures.items
    c.in_ok-print_place.ensures.ok
