use Rattle.std.proofs.Common.{rules, ◌≡◌, ◌∙◌, ap}
use Rattle.events.specs.Event.{party_at}
use Rattle.totals.specs.LookBack.{cash_of}
use Rattle.desk_why.proofs.figures.opening_figures.Goals as goal

-- the cash is that of the party of the seat
pub returns-in-CashTooSmall : goal.returns-in-CashTooSmall
returns-in-CashTooSmall c =
    let view = c.args.view.now in
    let cash : c.cash-cash.result ≡ cash_of view.seats view.events (party_at c.args.seat) =
    c.cash-cash.ensures.sum ∙ ap (cash_of view.seats view.events) c.of_seat.ensures in
    search (rules, cash, c.bids_elsewhere.ensures.sum, c.in-CashTooSmall.is)
