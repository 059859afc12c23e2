-- From the rows of a company, and from its best runs, to the report. A row of a train or a private tells
-- what becomes of the order as the first line of the company's orders, if nobody orders anything before
-- it. So the report of the file with that line alone has it obeyed, or refused by the rule that the row
-- names. Right below an obeyed line is what it moves, at the price that the row tells. Before a line of a
-- train the company withholds. A row that names a consent is refused for the lack of it, since nobody
-- has offered anything there. RUN BEST is obeyed if the company has a train, and credits the greatest
-- revenue. If the company must buy a train, the report has FORCED, and below it a RAISE as its row tells.
use Rattle.std.specs.Prelude.{◌≡◌, ℕ, true, false, List, [], ◌∷◌, map}
use Rattle.std.specs.List.{AllByRecursion}
use Rattle.desk_may.specs.RaiseRows.{raise_row, raises}
use Rattle.desk_promise.specs.CompanyLines.{IsHeadAwaited, IsReportedSo, obeyed, order_file, refused, ruled_second}
use Rattle.desk_promise.specs.LineFile.{IsOfCompanies}
use Rattle.desk_promise.specs.Moves.{MovesAsTold, MovesInOrders}
use Rattle.desk_promise.specs.Reported.{IsReportedNext}
use Rattle.desk_promise.specs.TurnRows.{ruling_told}
use Rattle.events.specs.declared.event.Event.{Event}
use Rattle.events.specs.declared.event.Event.TheVariants as event
use Rattle.events.specs.declared.ruling.Refusal.TheVariants as refusal
use Rattle.forced_purchase.specs.declared.operator.Operator.{Operator}
use Rattle.foresight.specs.Ahead.{OrdersState, withheld_in}
use Rattle.legal_runs.specs.Set.{IsGreatest}
use Rattle.map_tables.specs.declared.rules.RunRule.TheVariants.{NoTrain}
use Rattle.moves.specs.CompanyRows.{private_orders, private_row, train_orders, train_row}
use Rattle.moves.specs.declared.row.Row.{Row}
use Rattle.operating.specs.MapState.{position_now}
use Rattle.operating.specs.RunBest.{trains_now}
use Rattle.operating.specs.TurnEnd.{IsDue}
use Rattle.order_grammar.specs.declared.play.PlayOrder.TheVariants.{RunBest}
use Rattle.purchases.specs.Train.{has_trains}
use Rattle.report.specs.Report.{IsReport}
use Rattle.rounds.specs.Play.{Between}
use Rattle.sheets.specs.File.{IsAccepted}
use Rattle.tables.specs.declared.roster.Company.{Company}
use Rattle.tables.specs.declared.round.Round.{Round}
use Rattle.tables.specs.declared.round.Round.TheVariants.{Operating}
use Rattle.totals.specs.LookBack.{Game, with_event}

-- in the report of a file with its order, a row's line is ruled at this head as it tells, and right below
-- it is what its order moves at the price that the row tells
pub record IsRowInReport (file text : List ℕ) (before : Game) (round : Round) (by : Operator) (head : Game) (row : Row)
    : Type 0 where
  pub moved : List Event
  pub as_told : MovesAsTold row.answer (MovesInOrders head by row.order) moved
  pub reported : IsReportedNext file text before round head (ruled_second by (ruling_told row) ∷ moved)

-- a row is as the report says of the file in which its line is the only one, if the file is not refused
abbrev pub IsRowReported : List ℕ → Game → Round → Operator → Game → Row → Type 0
IsRowReported file before round by head row =
    IsOfCompanies row.order → IsAccepted (order_file file round by row.order) → (text : List ℕ)
    → IsReport (order_file file round by row.order) text
    → IsRowInReport (order_file file round by row.order) text before round by head row

-- the rows of trains, once the company has withheld, are as the reports say
abbrev pub TrainRowsAreReported : Type 0
TrainRowsAreReported =
    (file : List ℕ) (last : Between) (set number : ℕ) (company : Company) (orders : OrdersState)
    → IsHeadAwaited file last (Operating set number) company orders
    → AllByRecursion
    (IsRowReported file last.game (Operating set number) orders.by (withheld_in orders).turn.game)
    (map (train_row (withheld_in orders).turn.game orders.by.company) (train_orders (withheld_in orders).turn.game.events))

-- so are the rows of privates
abbrev pub PrivateRowsAreReported : Type 0
PrivateRowsAreReported =
    (file : List ℕ) (last : Between) (set number : ℕ) (company : Company) (orders : OrdersState)
    → IsHeadAwaited file last (Operating set number) company orders
    → AllByRecursion (IsRowReported file last.game (Operating set number) orders.by orders.turn.game)
    (map (private_row orders.turn.game orders.by.company) private_orders)

-- where a company must buy a train, FORCED comes before what its president sells for it
abbrev pub once_forced : OrdersState → Game
once_forced orders = with_event (withheld_in orders).turn.game (event.Forced orders.by.company)

-- so are the rows of RAISE, if the company must buy a train once it has withheld
abbrev pub RaiseRowsAreReported : Type 0
RaiseRowsAreReported =
    (file : List ℕ) (last : Between) (set number : ℕ) (company : Company) (orders : OrdersState)
    → IsHeadAwaited file last (Operating set number) company orders
    → IsDue (withheld_in orders).turn.game orders.by.company
    → AllByRecursion (IsRowReported file last.game (Operating set number) orders.by (once_forced orders))
    (map (raise_row (withheld_in orders).turn.game orders.by)
    (raises (withheld_in orders).turn.game.events orders.by.president))

-- RUN BEST is obeyed and credits the greatest revenue, if the company has a train, or else is refused
pub record IsBestTrue (file : List ℕ) (before : Game) (round : Round) (orders : OrdersState) : Type 0 where
  pub credited : has_trains orders.turn.game.events orders.by.company ≡ true → (revenue : ℕ)
      → IsGreatest (position_now orders.turn.game.events) orders.by.company
      (trains_now orders.turn.game.events orders.by.company) revenue
      → IsReportedSo file before round orders.by RunBest orders.turn.game
      (obeyed orders.by RunBest ∷ event.Runs orders.by.company revenue ∷ [])
  pub without : has_trains orders.turn.game.events orders.by.company ≡ false
      → IsReportedSo file before round orders.by RunBest orders.turn.game
      (refused orders.by RunBest (refusal.Run NoTrain) ∷ [])

-- so it is of each company in an operating round that is awaited
abbrev pub BestIsReported : Type 0
BestIsReported =
    (file : List ℕ) (last : Between) (set number : ℕ) (company : Company) (orders : OrdersState)
    → IsHeadAwaited file last (Operating set number) company orders
    → IsBestTrue file last.game (Operating set number) orders
