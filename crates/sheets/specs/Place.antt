-- Which orders have a place where a line stands depends on the kind of the round, and on whether
-- the line is before the first head or in a part. An order without a place is a fault of its line,
-- after those that the line has by itself.
use Rattle.std.specs.Prelude.{Bool, true, false, if◌then◌else◌, Result, Ok, Err}
use Rattle.order_grammar.specs.declared.fault.Fault.{Fault}
use Rattle.order_grammar.specs.declared.fault.Fault.TheVariants.{OutOfPlace}
use Rattle.order_grammar.specs.declared.order.Order.{Order}
use Rattle.order_grammar.specs.declared.order.Order.TheVariants as order

-- the order belongs to the file and its sheets, or to the text of a certificate, and has a place in
-- no part: all orders do but those of play and a line without words
abbrev pub is_of_file : Order → Bool
is_of_file order.Blank = false
is_of_file (order.Play its) = false
is_of_file (order.Run kind run) = false
is_of_file other = true

-- what a line with this reading is, if the orders that pass this test have a place
abbrev pub placed : (Order → Bool) → Result Order Fault → Result Order Fault
placed has_place (Err fault) = Err fault
placed has_place (Ok order) = if has_place order then Ok order else Err OutOfPlace

-- no order has a place here
abbrev pub has_no_place : Order → Bool
has_no_place order = false
