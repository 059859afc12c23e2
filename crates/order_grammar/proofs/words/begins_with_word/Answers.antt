use Rattle.std.proofs.Common.{sym, ap, ◌∙◌}
use Rattle.order_grammar.specs.Words.{first_of_words, same_word}
use Rattle.order_grammar.proofs.WordLemmas.{gives_first, gives_no_first, texts_of-line, empty_word}
use Rattle.order_grammar.proofs.words.begins_with_word.Goals as goal

pub returns-in-Some : goal.returns-in-Some
returns-in-Some c =
    let words = texts_of-line c.args.line.now c.of.result c.of.ensures in
    let first = gives_first c.of.result c.next.new.self c.next.result c.in-Some.first c.next.ensures.steps
    c.in-Some.is in
    c.is_word.ensures ∙ ap (λ w. same_word w c.args.word.now) (sym first ∙ ap first_of_words words)

pub returns-in-None : goal.returns-in-None
returns-in-None c =
    let words = texts_of-line c.args.line.now c.of.result c.of.ensures in
    let first = gives_no_first c.of.result c.next.new.self c.next.result c.next.ensures.steps c.in-None.is in
    c.is_empty.ensures ∙ empty_word c.args.word.now
    ∙ ap (λ w. same_word w c.args.word.now) (sym first ∙ ap first_of_words words)
