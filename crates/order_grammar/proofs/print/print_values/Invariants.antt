use Rattle.std.proofs.Common.{◌≡◌, ◌++◌, take, map}
use Rattle.order_grammar.specs.Print.{spaced, text_of_value}
use Rattle.order_grammar.proofs.print.print_values.Given as goal

-- the words of the values so far
abbrev pub invariant-loop-value : goal.invariant-loop-value
invariant-loop-value l = l.text.items ≡ l.fn.text.items ++ spaced (take l.value-index (map text_of_value l.values))
