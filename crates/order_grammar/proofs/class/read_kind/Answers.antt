use Rattle.std.proofs.Common.{sym, ap, ◌∙◌}
use Rattle.tables.specs.Train.{kinds, code_of_kind}
use Rattle.tables.specs.declared.rolling_stock.Kind.TheVariants.{Two}
use Rattle.order_grammar.specs.Words.{raised, same_word}
use Rattle.order_grammar.specs.declared.order.Value.TheVariants.{Kind}
use Rattle.order_grammar.proofs.ClassLemmas.{code_reading-next, code_reading-here}
use Rattle.order_grammar.proofs.class.read_kind.Goals as goal

pub returns-then-is_word : goal.returns-then-is_word
returns-then-is_word c =
    let word = raised c.args.word.now in
    let i = c.loop-kind.kind-index in
    let same = ap (same_word word) (sym (c.as_bytes.ensures.value ∙ c.code.ensures)) ∙ sym c.is_word.ensures
    ∙ c.if-is_word.true in
    sym (code_reading-here code_of_kind Kind kinds i Two word c.loop-kind-test.true same) ∙ c.loop-kind.invariant

pub loop-kind-preserved : goal.loop-kind-preserved
loop-kind-preserved c =
    let word = raised c.args.word.now in
    let i = c.loop-kind.kind-index in
    let other = ap (same_word word) (sym (c.as_bytes.ensures.value ∙ c.code.ensures)) ∙ sym c.is_word.ensures
    ∙ c.if-is_word.false in
    sym (code_reading-next code_of_kind Kind kinds i Two word c.loop-kind-test.true other) ∙ c.loop-kind.invariant
