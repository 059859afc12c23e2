-- A company that runs its best is credited no less than by any runs that its president could write
-- out in that turn.
use Rattle.std.specs.Prelude.{◌≡◌, ◌≤◌, List, None, Ok}
use Rattle.std.specs.List.{AllByRecursion}
use Rattle.totals.specs.LookBack.{Game}
use Rattle.map_tables.specs.declared.place.Place.{Place}
use Rattle.operating.specs.CompanyOrders.{LinesLead}
use Rattle.operating.specs.RunBest.{BestLeads, best_judgement}
use Rattle.operating.specs.Turn.{begun}
use Rattle.operating.specs.TurnState.{TurnState}
use Rattle.forced_purchase.specs.declared.operator.Operator.{Operator}
use Rattle.order_grammar.specs.declared.order.Order.TheVariants as order
use Rattle.sheets.specs.Part.{Numbered}
use Rattle.tables.specs.declared.rolling_stock.Kind.{Kind}

-- a line orders a run of a train
abbrev pub OrdersRun : Numbered → Type 0
OrdersRun line = (kind : Kind) × (run : List Place) × (line.reading ≡ Ok (order.Run kind run))

-- Some lines of a company's turn have been ruled, and it has come so far that a RUN BEST is obeyed.
-- Lines that order runs, each of them obeyed or refused, lead from there to one turn, and a RUN
-- BEST to another. The first has earned no more than the second.
abbrev pub BestEarnsNoLess : Type 0
BestEarnsNoLess =
    (by : Operator) (game : Game) (earlier lines : List Numbered) (turn written best : TurnState) (line : Numbered) →
    LinesLead by (begun game by.company) earlier turn →
    AllByRecursion OrdersRun lines → LinesLead by turn lines written →
    best_judgement turn by.company ≡ None → BestLeads by turn line best →
    written.progress.runs.revenue ≤ best.progress.runs.revenue
