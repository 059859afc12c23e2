use Rattle.std.proofs.Common.{Result, ap, ◌∙◌}
use Rattle.order_grammar.specs.Condition.{condition_of, play_reading, under}
use Rattle.order_grammar.specs.Words.{raised, texts_of}
use Rattle.order_grammar.specs.declared.condition.Condition.{Condition}
use Rattle.order_grammar.specs.declared.fault.Fault.{Fault}
use Rattle.order_grammar.proofs.WalkLemmas.{one_word}
use Rattle.order_grammar.proofs.WordLemmas.{next_words}
use Rattle.order_grammar.proofs.condition.read_of_one.Goals as goal

pub returns : goal.returns
returns c =
    let words = c.args.words.now in
    let left = c.next.new.self in
    c.read_under.ensures
    ∙ ap (λ (r : Result Condition Fault). under r (play_reading (texts_of left)))
    (c.condition_of.ensures ∙ ap condition_of c.read.ensures)
    ∙ one_word c.args.class (texts_of words) (texts_of left) (raised c.in-Some.word.text.now)
    (next_words words left c.next.result c.in-Some.word c.next.ensures.steps c.in-Some.is)
