-- From what is told of a company's orders to the report. Before an operating round the lays and tokens
-- of a company are told, and rows of what it may buy, all at the start of its orders if nobody orders
-- anything before it. The report of the file in which such an order is the only line of the company's
-- orders, and of all sheets for the round, says the same: below what play brings up to that head it has
-- the line obeyed at the price that is told, or refused by the rule that is.
use Rattle.std.specs.Int.RustNames.{unsigned_abs}
use Rattle.std.specs.Prelude.{◌≡◌, ℕ, ◌<◌, true, ℤ, List, [], ◌∷◌, None, length}
use Rattle.std.specs.List.{AllByRecursion}
use Rattle.desk_promise.specs.LineFile.{IsEnded, line_file, orders_of_one}
use Rattle.desk_promise.specs.Reported.{IsReportedNext}
use Rattle.events.specs.declared.event.Event.{Event}
use Rattle.events.specs.declared.event.Event.TheVariants as event
use Rattle.events.specs.declared.ruling.Refusal.{Refusal}
use Rattle.events.specs.declared.ruling.Refusal.TheVariants as refusal
use Rattle.events.specs.declared.ruling.Ruling.{Ruling}
use Rattle.events.specs.declared.ruling.Ruling.TheVariants.{Obeyed, Refused}
use Rattle.forced_purchase.specs.declared.operator.Operator.{Operator}
use Rattle.foresight.specs.Ahead.{OrdersState, opened_state}
use Rattle.foresight.specs.Orders.{IsAhead}
use Rattle.foresight.specs.declared.round_ahead.Ahead.TheVariants.{AtOrders}
use Rattle.map_tables.specs.declared.lay.Lay.{Lay}
use Rattle.map_tables.specs.declared.place.Place.{Place}
use Rattle.map_tables.specs.declared.rules.LayRule.{LayRule}
use Rattle.map_tables.specs.declared.rules.TokenRule.{TokenRule}
use Rattle.moves.specs.TurnLaws.{AreLaysAtStart, AreTokensAtStart}
use Rattle.moves.specs.declared.priced.Priced.{Priced}
use Rattle.order_grammar.specs.Spells.{is_round_of_line}
use Rattle.order_grammar.specs.declared.order.Order.TheVariants.{Play}
use Rattle.order_grammar.specs.declared.play.PlayOrder.{PlayOrder}
use Rattle.order_grammar.specs.declared.play.PlayOrder.TheVariants as play
use Rattle.reach.specs.Position.{IsAmong}
use Rattle.report.specs.Report.{IsReport}
use Rattle.rounds.specs.Play.{Between, Plays}
use Rattle.rounds.specs.declared.following.Next.TheVariants as next
use Rattle.sheets.specs.File.{IsAccepted, players_of}
use Rattle.tables.specs.declared.roster.Company.{Company}
use Rattle.tables.specs.declared.round.Round.{Round}
use Rattle.tables.specs.declared.round.Round.TheVariants.{Operating}
use Rattle.totals.specs.LookBack.{Game}

-- a file awaits a round, and if nobody has orders a company comes to the head of its orders in it, by
-- a president who is at the table
pub record IsHeadAwaited (file : List ℕ) (last : Between) (round : Round) (company : Company) (orders : OrdersState)
    : Type 0 where
  pub accepted : IsAccepted file
  pub ended : IsEnded file
  pub plays : Plays file last
  pub comes : last.next ≡ next.Round round
  pub of_line : is_round_of_line round ≡ true
  pub ahead : IsAhead company (opened_state file None round last.game) (AtOrders orders)
  pub at_table : orders.by.president.0 < length (players_of file)

-- the file in which an order is the only line of a company's orders, and of all sheets for the round
abbrev pub order_file : List ℕ → Round → Operator → PlayOrder → List ℕ
order_file file round by order = line_file file round by.president (orders_of_one by.company order)

-- in the report of that file, if it is not refused, these events come next once play has come to this
-- head, in the round after this game
abbrev pub IsReportedSo : List ℕ → Game → Round → Operator → PlayOrder → Game → List Event → Type 0
IsReportedSo file before round by order head said =
    IsAccepted (order_file file round by order) → (text : List ℕ) → IsReport (order_file file round by order) text
    → IsReportedNext (order_file file round by order) text before round head said

-- the order is ruled so, as line 2 of the sheet, below COMPANY
abbrev pub ruled_second : Operator → Ruling → Event
ruled_second by ruling = event.Ruled by.president 2 ruling

-- an order is obeyed
abbrev pub obeyed : Operator → PlayOrder → Event
obeyed by order = ruled_second by (Obeyed None (Play order))

-- a rule refuses an order
abbrev pub refused : Operator → PlayOrder → Refusal → Event
refused by order rule = ruled_second by (Refused rule None (Play order))

-- a lay is obeyed, and the tile laid at the price that is told
abbrev pub IsLayReported : List ℕ → Game → Round → OrdersState → Priced Lay → Type 0
IsLayReported file before round orders lay =
    IsReportedSo file before round orders.by (play.Lay lay.what) orders.turn.game
    (obeyed orders.by (play.Lay lay.what) ∷ event.Laid orders.by.company lay.what (unsigned_abs lay.price) ∷ [])

-- a token is obeyed, and placed at the price that is told
abbrev pub IsTokenReported : List ℕ → Game → Round → OrdersState → Priced Place → Type 0
IsTokenReported file before round orders token =
    IsReportedSo file before round orders.by (play.Token token.what) orders.turn.game
    (obeyed orders.by (play.Token token.what)
    ∷ event.Token orders.by.company token.what (unsigned_abs token.price) ∷ [])

-- in the report of its file a lay is refused, by some rule of lays
pub record IsLayRefused (file : List ℕ) (before : Game) (round : Round) (orders : OrdersState) (lay : Lay) (text : List ℕ)
    : Type 0 where
  pub rule : LayRule
  pub reported : IsReportedNext (order_file file round orders.by (play.Lay lay)) text before round orders.turn.game
      (refused orders.by (play.Lay lay) (refusal.Lay rule) ∷ [])

-- in that of its file a token is, by some rule of tokens
pub record IsTokenRefused (file : List ℕ) (before : Game) (round : Round) (orders : OrdersState) (place : Place)
    (text : List ℕ) : Type 0 where
  pub rule : TokenRule
  pub reported : IsReportedNext (order_file file round orders.by (play.Token place)) text before round orders.turn.game
      (refused orders.by (play.Token place) (refusal.Token rule) ∷ [])

-- the lays that are listed are as the reports say, and any other lay is refused
pub record LaysAreTrue (file : List ℕ) (before : Game) (round : Round) (orders : OrdersState) (listed : List (Priced Lay))
    : Type 0 where
  pub obeyed : AllByRecursion (IsLayReported file before round orders) listed
  pub others : (lay : Lay) → ((price : ℤ) → IsAmong (record { what = lay; price = price }) listed → ⊥)
      → IsAccepted (order_file file round orders.by (play.Lay lay)) → (text : List ℕ)
      → IsReport (order_file file round orders.by (play.Lay lay)) text
      → IsLayRefused file before round orders lay text

-- and so are tokens
pub record TokensAreTrue (file : List ℕ) (before : Game) (round : Round) (orders : OrdersState)
    (listed : List (Priced Place)) : Type 0 where
  pub obeyed : AllByRecursion (IsTokenReported file before round orders) listed
  pub others : (place : Place) → ((price : ℤ) → IsAmong (record { what = place; price = price }) listed → ⊥)
      → IsAccepted (order_file file round orders.by (play.Token place)) → (text : List ℕ)
      → IsReport (order_file file round orders.by (play.Token place)) text
      → IsTokenRefused file before round orders place text

-- the lays of a company in an operating round that is awaited are as the reports say
abbrev pub LaysAreReported : Type 0
LaysAreReported =
    (file : List ℕ) (last : Between) (set number : ℕ) (company : Company) (orders : OrdersState)
    → IsHeadAwaited file last (Operating set number) company orders → (listed : List (Priced Lay))
    → AreLaysAtStart orders.turn.game company listed
    → LaysAreTrue file last.game (Operating set number) orders listed

-- so are its tokens
abbrev pub TokensAreReported : Type 0
TokensAreReported =
    (file : List ℕ) (last : Between) (set number : ℕ) (company : Company) (orders : OrdersState)
    → IsHeadAwaited file last (Operating set number) company orders → (listed : List (Priced Place))
    → AreTokensAtStart orders.turn.game company listed
    → TokensAreTrue file last.game (Operating set number) orders listed
