use Rattle.std.proofs.Common.{ap, sym, ◌∙◌}
use Rattle.order_grammar.specs.Words.{raised, same_word, texts_of}
use Rattle.order_grammar.proofs.WalkLemmas.{floated_next, phase_next, price_next}
use Rattle.order_grammar.proofs.WordLemmas.{next_words}
use Rattle.order_grammar.proofs.condition.read_conditional.Goals as goal

pub returns-then-is_word : goal.returns-then-is_word
returns-then-is_word c =
    let first = raised c.in-Some.first.text.now in
    let next = next_words c.args.words.now c.next.new.self c.next.result c.in-Some.first c.next.ensures.steps
    c.in-Some.is in
    let price = ap (same_word first) (sym c.text.ensures) ∙ (sym c.is_word.ensures ∙ c.if-is_word.true) in
    c.read_price.ensures ∙ price_next (texts_of c.args.words.now) (texts_of c.next.new.self) first next price

pub returns-then-is_word-2 : goal.returns-then-is_word-2
returns-then-is_word-2 c =
    let first = raised c.in-Some.first.text.now in
    let next = next_words c.args.words.now c.next.new.self c.next.result c.in-Some.first c.next.ensures.steps
    c.in-Some.is in
    let other = ap (same_word first) (sym c.text.ensures) ∙ (sym c.is_word.ensures ∙ c.if-is_word.false) in
    let phase = ap (same_word first) (sym c.text-2.ensures) ∙ (sym c.is_word-2.ensures ∙ c.if-is_word-2.true) in
    c.read_of_one.ensures ∙ phase_next (texts_of c.args.words.now) (texts_of c.next.new.self) first next other phase

pub returns-then-is_word-3 : goal.returns-then-is_word-3
returns-then-is_word-3 c =
    let first = raised c.in-Some.first.text.now in
    let next = next_words c.args.words.now c.next.new.self c.next.result c.in-Some.first c.next.ensures.steps
    c.in-Some.is in
    let other = ap (same_word first) (sym c.text.ensures) ∙ (sym c.is_word.ensures ∙ c.if-is_word.false) in
    let neither = ap (same_word first) (sym c.text-2.ensures) ∙ (sym c.is_word-2.ensures ∙ c.if-is_word-2.false) in
    let floated = ap (same_word first) (sym c.text-3.ensures) ∙ (sym c.is_word-3.ensures ∙ c.if-is_word-3.true) in
    c.read_of_one-then-is_word-3.ensures ∙ floated_next (texts_of c.args.words.now) (texts_of c.next.new.self) first
    next other neither floated
