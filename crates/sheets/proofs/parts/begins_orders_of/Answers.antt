use Rattle.std.proofs.Common.{◌≡◌, false, codes, Result, ap, sym, ◌∙◌}
use Rattle.order_grammar.specs.Words.{first_of_words, same_word, words_of}
use Rattle.order_grammar.specs.declared.fault.Fault.{Fault}
use Rattle.order_grammar.specs.declared.order.Order.{Order}
use Rattle.sheets.specs.CompanyOrders.{opens_orders_of}
use Rattle.sheets.proofs.Heads.{no_orders}
use Rattle.sheets.proofs.parts.begins_orders_of.Goals as goal

pub returns-else-begins_with_word : goal.returns-else-begins_with_word
returns-else-begins_with_word c =
    let differs : same_word (first_of_words (words_of c.args.line.text.now)) (codes "COMPANY") ≡ false =
    sym c.begins_with_word.ensures ∙ c.if-begins_with_word.false in
    c.if-begins_with_word.false
    ∙ sym (no_orders c.read_in_version_where_spelt.ensures c.args.company c.args.line.version c.args.line.number
    c.args.line.text.now differs)

pub returns-in-Some : goal.returns-in-Some
returns-in-Some c =
    c.is_head_of_named.ensures
    ∙ ap (λ (r : Result Order Fault). opens_orders_of c.args.company r) (sym c.in-Some.ensures)
