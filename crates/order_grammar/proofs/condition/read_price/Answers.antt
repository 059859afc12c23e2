use Rattle.std.proofs.Common.{◌≡◌, true, Result, ap, sym, ◌∙◌}
use Rattle.order_grammar.specs.Class.{class_reading}
use Rattle.order_grammar.specs.Condition.{price_condition, play_reading, under}
use Rattle.order_grammar.specs.Keyword.{text_of_keyword}
use Rattle.order_grammar.specs.Words.{raised, same_word, texts_of}
use Rattle.order_grammar.specs.declared.class.Class.TheVariants as class
use Rattle.order_grammar.specs.declared.class.Reading.{Reading}
use Rattle.order_grammar.specs.declared.condition.Condition.{Condition}
use Rattle.order_grammar.specs.declared.fault.Fault.{Fault}
use Rattle.order_grammar.specs.declared.keyword.Keyword.TheVariants as keyword
use Rattle.order_grammar.proofs.WalkLemmas.{price_words}
use Rattle.order_grammar.proofs.WordLemmas.{next_words}
use Rattle.order_grammar.proofs.condition.read_price.Goals as goal

pub returns : goal.returns
returns c =
    let words = c.args.words.now in
    let name = c.in-Some.company in
    let sign = c.in-Some-next.at_least in
    let number = c.in-Some-next-2.price in
    let same : same_word (raised sign.text.now) (text_of_keyword keyword.AtLeast) ≡ true =
    ap (same_word (raised sign.text.now)) (sym c.text.ensures) ∙ (sym c.is_word.ensures ∙ c.if-not-is_word.false) in
    let company : c.read-company.result ≡ class_reading class.Company (raised name.text.now) = c.read-company.ensures in
    let price : c.read-price.result ≡ class_reading class.Number (raised number.text.now) = c.read-price.ensures in
    c.read_under.ensures
    ∙ ap (λ (r : Result Condition Fault). under r (play_reading (texts_of c.next-3.new.self)))
    (c.price_condition.ensures ∙ ap (λ (r : Reading). price_condition r c.read-price.result) company
    ∙ ap (price_condition (class_reading class.Company (raised name.text.now))) price)
    ∙ price_words (texts_of words) (texts_of c.next.new.self) (texts_of c.next-2.new.self)
    (texts_of c.next-3.new.self) (raised name.text.now) (raised sign.text.now) (raised number.text.now)
    (next_words words c.next.new.self c.next.result name c.next.ensures.steps c.in-Some.is)
    (next_words c.next.new.self c.next-2.new.self c.next-2.result sign c.next-2.ensures.steps c.in-Some-next.is)
    (next_words c.next-2.new.self c.next-3.new.self c.next-3.result number c.next-3.ensures.steps c.in-Some-next-2.is)
    same
