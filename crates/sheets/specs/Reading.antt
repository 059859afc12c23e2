-- The two parts of what is read of a line: its order, and the condition that it is under.
use Rattle.std.specs.Prelude.{Option, None, Result, Ok, Err}
use Rattle.order_grammar.specs.Condition.{Ordered}
use Rattle.order_grammar.specs.declared.condition.Condition.{Condition}
use Rattle.order_grammar.specs.declared.fault.Fault.{Fault}
use Rattle.order_grammar.specs.declared.order.Order.{Order}

-- the order alone, or the fault
abbrev pub order_read : Result Ordered Fault → Result Order Fault
order_read (Ok spelt) = Ok spelt.order
order_read (Err fault) = Err fault

-- the condition, if there is one; a line with a fault has none
abbrev pub condition_read : Result Ordered Fault → Option Condition
condition_read (Ok spelt) = spelt.condition
condition_read (Err fault) = None
