use Rattle.std.proofs.Common.{sym, ap, ◌∙◌}
use Rattle.tables.specs.Roster.{companies, code_of_company}
use Rattle.tables.specs.declared.roster.Company.TheVariants.{Pennsylvania}
use Rattle.order_grammar.specs.Words.{raised, same_word}
use Rattle.order_grammar.specs.declared.order.Value.TheVariants.{Company}
use Rattle.order_grammar.proofs.ClassLemmas.{code_reading-next, code_reading-here}
use Rattle.order_grammar.proofs.class.read_company.Goals as goal

pub returns-then-is_word : goal.returns-then-is_word
returns-then-is_word c =
    let word = raised c.args.word.now in
    let i = c.loop-company.company-index in
    let same = ap (same_word word) (sym (c.as_bytes.ensures.value ∙ c.code.ensures)) ∙ sym c.is_word.ensures
    ∙ c.if-is_word.true in
    sym (code_reading-here code_of_company Company companies i Pennsylvania word c.loop-company-test.true same)
    ∙ c.loop-company.invariant

pub loop-company-preserved : goal.loop-company-preserved
loop-company-preserved c =
    let word = raised c.args.word.now in
    let i = c.loop-company.company-index in
    let other = ap (same_word word) (sym (c.as_bytes.ensures.value ∙ c.code.ensures)) ∙ sym c.is_word.ensures
    ∙ c.if-is_word.false in
    sym (code_reading-next code_of_company Company companies i Pennsylvania word c.loop-company-test.true other)
    ∙ c.loop-company.invariant
