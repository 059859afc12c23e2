use Rattle.std.proofs.Common.{sym, ◌∙◌}
use Rattle.order_grammar.specs.Words.{texts_of}
use Rattle.order_grammar.specs.declared.class.Class.TheVariants.{Number}
use Rattle.order_grammar.proofs.FormLemmas.{values_reading-none}
use Rattle.order_grammar.proofs.WordLemmas.{none_left}
use Rattle.order_grammar.proofs.form.Form.read_values.Goals as goal

pub returns-in_default : goal.returns-in_default
returns-in_default c =
    let none = none_left c.loop-class.rest c.next.new.self c.next.result c.next.ensures.steps c.in_default.is in
    sym
    (values_reading-none c.loop-class.values.items c.loop-class.too_large c.args.self.now.classes.now
    c.args.self.now.trailing_class c.loop-class.class-index Number (texts_of c.loop-class.rest) c.loop-class-test.true
    none)
    ∙ c.loop-class.invariant.0
