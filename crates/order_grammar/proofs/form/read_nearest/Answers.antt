use Rattle.std.proofs.Common.{◌≡◌, ◌≤◌, ◌+◌, List, arith, length, true, Result, Ok, Err, sym, ap, ◌∙◌, drop, get_or, map, fold}
use Rattle.std.proofs.lemmas.List.{at_drop_all, length-map}
use Rattle.order_grammar.specs.Form.{Row, nearer, put_reading, rows_reading}
use Rattle.order_grammar.specs.Keyword.{text_of_keyword}
use Rattle.order_grammar.specs.Row.{row_of_form, rows_of}
use Rattle.order_grammar.specs.Words.{raised, same_word, texts_of}
use Rattle.order_grammar.specs.declared.fault.Fault.{Fault}
use Rattle.order_grammar.specs.declared.fault.Fault.TheVariants.{UnknownWord}
use Rattle.order_grammar.specs.declared.order.Order.{Order}
use Rattle.order_grammar.proofs.FormLemmas.{first_of_row, found_stays, known-row, nearer-found, rows-next}
use Rattle.order_grammar.proofs.FormLemmas.{rows_with-read, short_form, unknown-rows, with_row}
use Rattle.order_grammar.proofs.form.read_nearest.Goals as goal

pub read-requires : goal.read-requires
read-requires c = short_form c.forms-forms.result.now c.loop-form.form-index _ c.forms-forms.ensures.short c.loop-form-test.true

-- no form has a word that no keyword is
pub returns-in_default : goal.returns-in_default
returns-in_default c =
    sym (unknown-rows (rows_of c.args.grammar) (raised c.args.first.now) (texts_of c.args.rest.now)
    (sym c.of_word.ensures ∙ c.in_default.is))

pub returns-in-Ok : goal.returns-in-Ok
returns-in-Ok c =
    let first = raised c.args.first.now in
    let rest = texts_of c.args.rest.now in
    let forms = c.forms-forms.result.now in
    let i = c.loop-form.form-index in
    let order = c.read.new.order in
    let others = drop (i + 1) (map row_of_form forms) in
    let spelt = sym c.of_word.ensures ∙ c.in-Some.is in
    let same : same_word first (text_of_keyword (get_or forms i _).keyword) ≡ true =
    first_of_row c.in-Some.keyword (rows_of c.args.grammar) forms i _ first c.forms-forms.ensures.rows
    c.loop-form-test.true spelt in
    let next =
    rows-next first rest (Err c.loop-form.nearest) forms i _ c.loop-form-test.true
    (put_reading c.read.result order) (known-row _ first rest _ same c.read.ensures) in
    let found : fold (with_row first rest) (nearer (Err c.loop-form.nearest) (put_reading c.read.result order)) others
    ≡ Ok order =
    ap (λ (r : Result Unit Fault). fold (with_row first rest) (nearer (Err c.loop-form.nearest) (put_reading r order))
    others) c.in-Ok.is
    ∙ ap (λ (r : Result Order Fault). fold (with_row first rest) r others) (nearer-found c.loop-form.nearest order)
    ∙ found_stays first rest order others in
    sym found ∙ sym next ∙ c.loop-form.invariant ∙ ap (λ rows. rows_reading rows first rest) c.forms-forms.ensures.rows
    ∙ rows_with-read c.in-Some.keyword first rest (Err UnknownWord) (rows_of c.args.grammar) spelt

pub loop-form-preserved : goal.loop-form-preserved
loop-form-preserved c =
    let first = raised c.args.first.now in
    let rest = texts_of c.args.rest.now in
    let forms = c.forms-forms.result.now in
    let i = c.loop-form.form-index in
    let order = c.read.new.order in
    let others = drop (i + 1) (map row_of_form forms) in
    let same : same_word first (text_of_keyword (get_or forms i _).keyword) ≡ true =
    first_of_row c.in-Some.keyword (rows_of c.args.grammar) forms i _ first c.forms-forms.ensures.rows
    c.loop-form-test.true (sym c.of_word.ensures ∙ c.in-Some.is) in
    let next =
    rows-next first rest (Err c.loop-form.nearest) forms i _ c.loop-form-test.true
    (put_reading c.read.result order) (known-row _ first rest _ same c.read.ensures) in
    ap (λ (r : Result Order Fault). fold (with_row first rest) r others) c.nearer-nearest.ensures
    ∙ ap (λ (r : Result Unit Fault). fold (with_row first rest)
    (nearer (Err c.loop-form.nearest) (put_reading r order)) others) (sym c.in-Err.is)
    ∙ sym next
    ∙ c.loop-form.invariant

-- the nearest over the forms with the first word is the nearest over all
pub returns : goal.returns
returns c =
    let first = raised c.args.first.now in
    let rest = texts_of c.args.rest.now in
    let forms = c.forms-forms.result.now in
    let past : length (map row_of_form forms) ≤ c.loop-form.form-index =
    omega (arith, length-map forms row_of_form, c.loop-form-test.false) in
    sym (at_drop_all (λ (rows : List Row). fold (with_row first rest) (Err c.loop-form.nearest) rows)
    (map row_of_form forms) c.loop-form.form-index past)
    ∙ c.loop-form.invariant ∙ ap (λ rows. rows_reading rows first rest) c.forms-forms.ensures.rows
    ∙ rows_with-read c.in-Some.keyword first rest (Err UnknownWord) (rows_of c.args.grammar)
    (sym c.of_word.ensures ∙ c.in-Some.is)
