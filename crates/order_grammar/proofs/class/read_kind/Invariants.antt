use Rattle.std.proofs.Common.{◌≡◌, drop}
use Rattle.tables.specs.Train.{kinds, code_of_kind}
use Rattle.order_grammar.specs.Class.{class_reading, code_reading}
use Rattle.order_grammar.specs.Words.{raised}
use Rattle.order_grammar.specs.declared.class.Class.TheVariants as class
use Rattle.order_grammar.specs.declared.order.Value.TheVariants.{Kind}
use Rattle.order_grammar.proofs.class.read_kind.Given as goal

-- none so far has this code
abbrev pub invariant-loop-kind : goal.invariant-loop-kind
invariant-loop-kind l =
    code_reading code_of_kind Kind (drop l.kind-index kinds) (raised l.word) ≡ class_reading class.Kind (raised l.word)
