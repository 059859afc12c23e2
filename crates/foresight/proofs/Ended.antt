-- The end of a company's turn leaves the seats as they are.
use Rattle.std.proofs.Common.{◌≡◌, ap, refl, List}
use Rattle.events.specs.declared.event.Event.TheVariants as event
use Rattle.forced_purchase.specs.declared.operator.Operator.{Operator}
use Rattle.operating.proofs.ForcedGames.{OfSales, of_end, of_sale}
use Rattle.operating.proofs.TurnLaws.{adds_by, more_adds}
use Rattle.operating.specs.Laws.{OnlyAdds}
use Rattle.operating.specs.TurnEnd.{EndLeads}
use Rattle.sheets.specs.Part.{Numbered}
use Rattle.totals.specs.LookBack.{Game}

pub end_seats : (by : Operator) (lines : List Numbered) (paid new : Game) → EndLeads by lines paid new
    → new.seats ≡ paid.seats
end_seats by lines paid new ends =
    let sales : OfSales by OnlyAdds = of_sale by OnlyAdds (adds_by by.company)
    (λ game its seat. more_adds game (event.President its seat) tt refl refl refl) in
    ap (λ (game : Game). game.seats)
    (of_end by OnlyAdds (adds_by by.company) sales
    (λ game. more_adds game (event.Bankrupt by.president) tt refl refl refl) lines paid new ends).added
