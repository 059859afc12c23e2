-- The standing lines of a stock sheet, those before its first written turn, are ruled at the
-- round's start: no order has a place there, whatever its condition.
use Rattle.std.specs.Prelude.{List, Result, Ok, Err}
use Rattle.events.specs.declared.event.Event.{Event}
use Rattle.events.specs.declared.ruling.Ruling.TheVariants.{Faulty}
use Rattle.order_grammar.specs.declared.fault.Fault.{Fault}
use Rattle.order_grammar.specs.declared.fault.Fault.TheVariants.{OutOfPlace}
use Rattle.order_grammar.specs.declared.order.Order.{Order}
use Rattle.sheets.specs.Part.{Numbered}
use Rattle.tables.specs.declared.seat.Seat.{Seat}
use Rattle.turns.specs.Ruling.{recorded}

-- the fault of a line where no order has a place: its own, otherwise that one
abbrev pub fault_of_standing : Result Order Fault → Fault
fault_of_standing (Err fault) = fault
fault_of_standing (Ok order) = OutOfPlace

-- after a standing line of a seat
abbrev pub after_stock_standing_line : Seat → List Event → Numbered → List Event
after_stock_standing_line seat events line = recorded seat line.number (Faulty (fault_of_standing line.reading)) events
