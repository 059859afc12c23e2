use Rattle.std.proofs.Common.{rules, ◌≡◌, ◌∙◌, ap}
use Rattle.events.specs.Event.{party_of_company}
use Rattle.totals.specs.Bids.{free_cash_of}
use Rattle.totals.specs.LookBack.{Game, cash_of}
use Rattle.desk_dues.proofs.danger.danger_for.Goals as goal

-- the cash is that of the party of the company, and the president's that of the game
pub returns : goal.returns
returns c =
    let game = c.args.history.now in
    let cash : c.cash.result ≡ cash_of game.seats game.events (party_of_company c.args.by.company) =
    c.cash.ensures.sum ∙ ap (cash_of game.seats game.events) c.of_company.ensures in
    let free : c.free_cash.result ≡ free_cash_of game.seats game.events c.args.by.president =
    c.free_cash.ensures
    ∙ ap (λ (view : Game). free_cash_of view.seats view.events c.args.by.president) c.now.ensures in
    search (rules, cash, free)
