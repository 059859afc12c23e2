use Rattle.std.proofs.Common.{◌≡◌, ◌∙◌, ap, rules}
use Rattle.events.specs.Event.{party_at}
use Rattle.totals.specs.LookBack.{cash_of}
use Rattle.desk_cells.proofs.rows.cash_of_player.Goals as goal

-- the cash is that of the party of the seat
pub returns : goal.returns
returns c =
    let view = c.args.view.now in
    let same : c.cash.result ≡ cash_of view.seats view.events (party_at c.args.seat) =
    c.cash.ensures.sum ∙ ap (cash_of view.seats view.events) c.of_seat.ensures in
    search (rules, same)
