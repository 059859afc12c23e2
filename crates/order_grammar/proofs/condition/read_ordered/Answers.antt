use Rattle.std.proofs.Common.{Result, Err, refl, sym, ap, ◌∙◌}
use Rattle.std.proofs.lemmas.Result.{err_from_is_err_and}
use Rattle.order_grammar.specs.Condition.{put_ordered, unconditional}
use Rattle.order_grammar.specs.Form.{order_forms, put_reading}
use Rattle.order_grammar.specs.Words.{raised, same_word}
use Rattle.order_grammar.specs.declared.fault.Fault.{Fault}
use Rattle.order_grammar.proofs.WalkLemmas.{plain_read}
use Rattle.order_grammar.proofs.condition.read_ordered.Goals as goal

pub returns-in_err-read_nearest : goal.returns-in_err-read_nearest
returns-in_err-read_nearest c =
    let order = c.read_nearest.new.order in
    let first = raised c.in-Some.first.text.now in
    let other = ap (same_word first) (sym c.text.ensures) ∙ (sym c.is_word.ensures ∙ c.if-is_word.false) in
    let p = err_from_is_err_and c.from_residual.result c.from_residual.ensures.1 in
    ap (λ r. put_ordered r order) p.1 ∙ ap (λ (f : Fault). put_ordered (Err f) order) p.2
    ∙ sym (ap (λ (r : Result Unit Fault). unconditional (put_reading r order)) c.in_err-read_nearest.was)
    ∙ plain_read c.args.words.now c.duplicate-rest.result c.next.new.self c.next.result c.in-Some.first
    order_forms (put_reading c.read_nearest.result order)
    c.duplicate-rest.ensures c.next.ensures.steps c.in-Some.is other refl c.read_nearest.ensures

pub returns : goal.returns
returns c =
    let order = c.read_nearest.new.order in
    let first = raised c.in-Some.first.text.now in
    let other = ap (same_word first) (sym c.text.ensures) ∙ (sym c.is_word.ensures ∙ c.if-is_word.false) in
    sym (ap (λ (r : Result Unit Fault). unconditional (put_reading r order)) c.in_ok-read_nearest.was)
    ∙ plain_read c.args.words.now c.duplicate-rest.result c.next.new.self c.next.result c.in-Some.first
    order_forms (put_reading c.read_nearest.result order)
    c.duplicate-rest.ensures c.next.ensures.steps c.in-Some.is other refl c.read_nearest.ensures
