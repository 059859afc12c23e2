use Rattle.std.proofs.Common.{sym, ap, ◌∙◌}
use Rattle.order_grammar.specs.Words.{raised, same_word}
use Rattle.order_grammar.proofs.KeywordLemmas.{spelt-here, spelt-next}
use Rattle.order_grammar.proofs.keyword.first_spelt.Goals as goal

pub returns-then-is_word : goal.returns-then-is_word
returns-then-is_word c =
    let word = raised c.args.word.now in
    let same = ap (same_word word) (sym c.text.ensures) ∙ (sym c.is_word.ensures ∙ c.if-is_word.true) in
    sym (spelt-here word c.args.keywords.now c.loop-keyword.keyword-index _ c.loop-keyword-test.true same)
    ∙ c.loop-keyword.invariant

pub loop-keyword-preserved : goal.loop-keyword-preserved
loop-keyword-preserved c =
    let word = raised c.args.word.now in
    let other = ap (same_word word) (sym c.text.ensures) ∙ (sym c.is_word.ensures ∙ c.if-is_word.false) in
    sym (spelt-next word c.args.keywords.now c.loop-keyword.keyword-index _ c.loop-keyword-test.true other)
    ∙ c.loop-keyword.invariant
