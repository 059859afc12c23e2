use Rattle.std.proofs.Common.{rules, ◌≡◌, ◌∙◌, ap}
use Rattle.events.specs.Event.{party_of_company}
use Rattle.totals.specs.LookBack.{cash_of}
use Rattle.desk_cells.proofs.rows.company_row.Goals as goal

-- the cash is that of the party of the company
pub returns : goal.returns
returns c =
    let view = c.args.view.now in
    let same : c.cash.result ≡ cash_of view.seats view.events (party_of_company c.args.company) =
    c.cash.ensures.sum ∙ ap (cash_of view.seats view.events) c.of_company.ensures in
    search (rules, same)
