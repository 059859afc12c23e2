use Rattle.std.proofs.Common.{sym, ◌∙◌}
use Rattle.order_grammar.specs.Class.{round_of_series}
use Rattle.order_grammar.specs.declared.order.Value.TheVariants.{Round}
use Rattle.order_grammar.proofs.ClassLemmas.{round_number-digits, digits_reading-none, digits_reading-large}
use Rattle.order_grammar.proofs.ClassLemmas.{digits_reading-value}
use Rattle.order_grammar.proofs.class.read_round_number.Goals as goal

pub returns-in-None : goal.returns-in-None
returns-in-None c =
    let digits = c.args.digits.now in
    sym
    (round_number-digits c.args.series digits c.in-len1-up.len_at_least c.if-first-eq48.false
    ∙ digits_reading-none (λ number. Round (round_of_series c.args.series number)) digits c.in-None.ensures)

pub returns-in-Some : goal.returns-in-Some
returns-in-Some c =
    let digits = c.args.digits.now in
    sym
    (round_number-digits c.args.series digits c.in-len1-up.len_at_least c.if-first-eq48.false
    ∙ digits_reading-large (λ number. Round (round_of_series c.args.series number)) digits c.in-Some.number
    c.in-Some.ensures c.if-number-gt-NUMBER_MOST.true)

pub returns-in-Some-2 : goal.returns-in-Some-2
returns-in-Some-2 c =
    let digits = c.args.digits.now in
    rw c.round.ensures
    (sym (round_number-digits c.args.series digits c.in-len1-up.len_at_least c.if-first-eq48.false
    ∙ digits_reading-value (λ number. Round (round_of_series c.args.series number)) digits c.in-Some.number
    c.in-Some.ensures c.if-number-gt-NUMBER_MOST.false))
