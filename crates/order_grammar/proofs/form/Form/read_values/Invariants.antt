use Rattle.std.proofs.Common.{◌≡◌, ◌≤◌, length, drop}
use Rattle.order_grammar.specs.Form.{values_reading}
use Rattle.order_grammar.specs.Row.{joined_values}
use Rattle.order_grammar.specs.Words.{texts_of}
use Rattle.order_grammar.proofs.form.Form.read_values.Given as goal

-- the values so far, before those to come
abbrev pub invariant-loop-class : goal.invariant-loop-class
invariant-loop-class l =
    (joined_values l.values.items l.too_large (values_reading (drop l.class-index l.self.classes.now)
    l.self.trailing_class
    (texts_of l.rest)) ≡ values_reading l.self.classes.now l.self.trailing_class (texts_of l.fn.rest))
    × (length l.values.items ≤ l.class-index) × (length l.self.classes.now ≤ 5)
