use Rattle.std.proofs.Common.{◌≡◌, drop}
use Rattle.tables.specs.Roster.{privates, code_of_private}
use Rattle.order_grammar.specs.Class.{class_reading, code_reading}
use Rattle.order_grammar.specs.Words.{raised}
use Rattle.order_grammar.specs.declared.class.Class.TheVariants as class
use Rattle.order_grammar.specs.declared.order.Value.TheVariants.{Private}
use Rattle.order_grammar.proofs.class.read_private.Given as goal

-- none so far has this code
abbrev pub invariant-loop-private : goal.invariant-loop-private
invariant-loop-private l =
    code_reading code_of_private Private (drop l.private-index privates) (raised l.word)
    ≡ class_reading class.Private (raised l.word)
