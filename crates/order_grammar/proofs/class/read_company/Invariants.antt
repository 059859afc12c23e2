use Rattle.std.proofs.Common.{◌≡◌, drop}
use Rattle.tables.specs.Roster.{companies, code_of_company}
use Rattle.order_grammar.specs.Class.{class_reading, code_reading}
use Rattle.order_grammar.specs.Words.{raised}
use Rattle.order_grammar.specs.declared.class.Class.TheVariants as class
use Rattle.order_grammar.specs.declared.order.Value.TheVariants.{Company}
use Rattle.order_grammar.proofs.class.read_company.Given as goal

-- none so far has this code
abbrev pub invariant-loop-company : goal.invariant-loop-company
invariant-loop-company l =
    code_reading code_of_company Company (drop l.company-index companies) (raised l.word)
    ≡ class_reading class.Company (raised l.word)
