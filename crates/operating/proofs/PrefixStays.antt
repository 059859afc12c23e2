-- A board that has the first of what was laid before a company's turn, or before its end, has it
-- still after that.
use Rattle.std.proofs.Common.{◌≡◌, sym, subst, List, refl}
use Rattle.board_state.specs.MapState.{MapState}
use Rattle.events.specs.declared.event.Event.TheVariants as event
use Rattle.forced_purchase.specs.declared.operator.Operator.{Operator}
use Rattle.operating.proofs.ForcedGames.{OfSales, of_end, of_sale}
use Rattle.operating.proofs.Prefixes.{prefix_on}
use Rattle.operating.proofs.TurnGames.{of_home}
use Rattle.operating.proofs.TurnLaws.{adds_by, more_adds}
use Rattle.operating.specs.HomeToken.{with_home}
use Rattle.operating.specs.Laws.{OnlyAdds}
use Rattle.operating.specs.MapState.{IsPrefix}
use Rattle.operating.specs.TurnEnd.{EndLeads}
use Rattle.sheets.specs.Part.{Numbered}
use Rattle.tables.specs.declared.roster.Company.{Company}
use Rattle.totals.specs.LookBack.{Game}

home_adds : (old first : Game) (company : Company) → first ≡ with_home old company → OnlyAdds old first
home_adds old first company is = subst (OnlyAdds old) (sym is) (of_home company OnlyAdds (adds_by company) old)

-- once the home token lies
pub home_prefix : (laid : MapState) (old first : Game) (company : Company) → first ≡ with_home old company
    → IsPrefix laid old.events → IsPrefix laid first.events
home_prefix laid old first company is prefix = prefix_on laid old first (home_adds old first company is) prefix

-- and after what a company's orders bring at the end of the turn
pub end_prefix : (by : Operator) (lines : List Numbered) (laid : MapState) (paid new : Game)
    → EndLeads by lines paid new → IsPrefix laid paid.events → IsPrefix laid new.events
end_prefix by lines laid paid new ends prefix =
    let sales : OfSales by OnlyAdds = of_sale by OnlyAdds (adds_by by.company)
    (λ game its seat. more_adds game (event.President its seat) tt refl refl refl) in
    prefix_on laid paid new
    (of_end by OnlyAdds (adds_by by.company) sales
    (λ game. more_adds game (event.Bankrupt by.president) tt refl refl refl) lines paid new ends) prefix
