use Rattle.std.proofs.Common.{List, ap, ◌∙◌}
use Rattle.order_grammar.specs.Form.{put_reading, words_reading}
use Rattle.order_grammar.specs.Row.{rows_of}
use Rattle.order_grammar.specs.Words.{Placed, texts_of}
use Rattle.order_grammar.proofs.FormLemmas.{table_read}
use Rattle.order_grammar.proofs.form.read_order.Goals as goal

pub returns : goal.returns
returns c =
    let rows = rows_of c.args.grammar in
    table_read c.duplicate-rest.result c.next.new.self c.next.result c.in-Some.first rows
    (put_reading c.read_nearest.result c.read_nearest.new.order)
    c.next.ensures.steps c.in-Some.is c.read_nearest.ensures
    ∙ ap (λ (words : List Placed). words_reading rows (texts_of words)) c.duplicate-rest.ensures
