use Rattle.std.proofs.Common.{◌≡◌, Result, Ok, Err, sym, ap, ◌∙◌}
use Rattle.events.specs.declared.event.Event.TheVariants as event
use Rattle.events.specs.declared.ruling.Ruling.TheVariants.{Faulty}
use Rattle.totals.specs.LookBack.{Game, with_event, with_events}
use Rattle.order_grammar.specs.declared.fault.Fault.{Fault}
use Rattle.order_grammar.specs.declared.order.Order.{Order}
use Rattle.sheets.specs.Part.{Numbered, line_unread}
use Rattle.sheets.specs.Place.{has_no_place, placed}
use Rattle.stock_round.specs.Standing.{after_stock_standing_line, fault_of_standing}
use Rattle.tables.specs.declared.seat.Seat.{Seat}
use Rattle.stock_round.proofs.standing.rule_standing_line.Goals as goal

-- the fault of a line where no order has a place is that of a standing line
fault_is : (reading : Result Order Fault) (fault : Fault) → placed has_no_place reading ≡ Err fault
    → fault_of_standing reading ≡ fault
fault_is (Err own) fault is = cc
fault_is (Ok order) fault is = cc

-- so its record is that of a standing line
recorded_is : (seat : Seat) (line : Numbered) (fault : Fault) (old new : Game)
    → placed has_no_place line.reading ≡ Err fault →
    new ≡ with_event old (event.Ruled seat line.number (Faulty fault))
    → new ≡ with_events old (after_stock_standing_line seat old.events line)
recorded_is seat line fault old new is recorded =
    recorded
    ∙ ap (λ (fault : Fault). with_event old (event.Ruled seat line.number (Faulty fault)))
    (sym (fault_is line.reading fault is))

pub returns-clause-after : goal.returns-clause-after
returns-clause-after c =
    recorded_is c.args.seat (line_unread c.args.line) c.fault_out_of_place-fault.result c.args.history.now
    c.record_fault.new.history c.fault_out_of_place-fault.ensures c.in_ok-record_fault.ensures.ruling
