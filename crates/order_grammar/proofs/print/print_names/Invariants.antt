use Rattle.std.proofs.Common.{◌≡◌, ◌++◌, take}
use Rattle.order_grammar.specs.Print.{spaced}
use Rattle.order_grammar.proofs.print.print_names.Given as goal

-- the names so far
abbrev pub invariant-loop-name : goal.invariant-loop-name
invariant-loop-name l = l.text.items ≡ l.fn.text.items ++ spaced (take l.name-index l.names)
