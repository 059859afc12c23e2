use Rattle.std.proofs.Common.{sym, ◌∙◌}
use Rattle.order_grammar.specs.declared.order.Value.TheVariants.{Number}
use Rattle.order_grammar.proofs.ClassLemmas.{digits_reading-raised, digits_reading-none, digits_reading-large}
use Rattle.order_grammar.proofs.ClassLemmas.{digits_reading-value}
use Rattle.order_grammar.proofs.class.read_number.Goals as goal

pub returns-in-None : goal.returns-in-None
returns-in-None c =
    let word = c.args.word.now in
    sym (digits_reading-raised Number word ∙ digits_reading-none Number word c.in-None.ensures)

pub returns-in-Some : goal.returns-in-Some
returns-in-Some c =
    let word = c.args.word.now in
    sym (digits_reading-raised Number word ∙ digits_reading-large Number word c.in-Some.value c.in-Some.ensures
    c.if-value-gt-NUMBER_MOST.true)

pub returns-in-Some-2 : goal.returns-in-Some-2
returns-in-Some-2 c =
    let word = c.args.word.now in
    sym (digits_reading-raised Number word ∙ digits_reading-value Number word c.in-Some.value c.in-Some.ensures
    c.if-value-gt-NUMBER_MOST.false)
