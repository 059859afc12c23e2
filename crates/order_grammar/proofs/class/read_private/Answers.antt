use Rattle.std.proofs.Common.{sym, ap, ◌∙◌}
use Rattle.tables.specs.Roster.{privates, code_of_private}
use Rattle.tables.specs.declared.roster.Private.TheVariants.{SchuylkillValley}
use Rattle.order_grammar.specs.Words.{raised, same_word}
use Rattle.order_grammar.specs.declared.order.Value.TheVariants.{Private}
use Rattle.order_grammar.proofs.ClassLemmas.{code_reading-next, code_reading-here}
use Rattle.order_grammar.proofs.class.read_private.Goals as goal

pub returns-then-is_word : goal.returns-then-is_word
returns-then-is_word c =
    let word = raised c.args.word.now in
    let i = c.loop-private.private-index in
    let same = ap (same_word word) (sym (c.as_bytes.ensures.value ∙ c.code.ensures)) ∙ sym c.is_word.ensures
    ∙ c.if-is_word.true in
    sym (code_reading-here code_of_private Private privates i SchuylkillValley word c.loop-private-test.true same)
    ∙ c.loop-private.invariant

pub loop-private-preserved : goal.loop-private-preserved
loop-private-preserved c =
    let word = raised c.args.word.now in
    let i = c.loop-private.private-index in
    let other = ap (same_word word) (sym (c.as_bytes.ensures.value ∙ c.code.ensures)) ∙ sym c.is_word.ensures
    ∙ c.if-is_word.false in
    sym (code_reading-next code_of_private Private privates i SchuylkillValley word c.loop-private-test.true other)
    ∙ c.loop-private.invariant
