-- A row that names a consent is right about it. Take a game with the OFFER that the row names among the lines that were
-- obeyed in this round, wherever it stands. There the row says that the order is obeyed at the same price, and the line is
-- obeyed.
use Rattle.std.specs.Prelude.{◌≡◌, ℕ, false, List, [], ◌∷◌, ◌++◌, Option, None, ℤ, ⊤}
use Rattle.events.specs.Event.{round_begun_by}
use Rattle.events.specs.declared.event.Event.{Event}
use Rattle.events.specs.declared.event.Event.TheVariants as event
use Rattle.events.specs.declared.ruling.Ruling.TheVariants as ruling
use Rattle.forced_purchase.specs.declared.operator.Operator.{Operator}
use Rattle.moves.specs.CompanyRows.{private_answer, train_answer}
use Rattle.moves.specs.RowLaws.{private_told, train_told}
use Rattle.moves.specs.declared.row.Answer.TheVariants.{Obeyed, WithConsent}
use Rattle.operating.specs.CompanyOrders.{OrderLeads}
use Rattle.operating.specs.Progress.{is_unpaid}
use Rattle.operating.specs.TurnState.{TurnState, turn_state}
use Rattle.order_grammar.specs.declared.condition.Condition.{Condition}
use Rattle.order_grammar.specs.declared.order.Offer.{Offer}
use Rattle.order_grammar.specs.declared.order.Order.TheVariants as order
use Rattle.order_grammar.specs.declared.order.TrainSource.{TrainSource}
use Rattle.order_grammar.specs.declared.play.PlayOrder.TheVariants as play
use Rattle.sheets.specs.Part.{Numbered}
use Rattle.tables.specs.declared.rolling_stock.Kind.{Kind}
use Rattle.tables.specs.declared.roster.Company.{Company}
use Rattle.tables.specs.declared.roster.Private.{Private}
use Rattle.tables.specs.declared.seat.Seat.{Seat}
use Rattle.totals.specs.LookBack.{Game}

-- no round begins in these events
abbrev pub NoRoundBegins : List Event → Type 0
NoRoundBegins [] = ⊤
NoRoundBegins (event ∷ events) = (round_begun_by event ≡ None) × NoRoundBegins events

-- the line of a seat that offers a sale, obeyed
abbrev pub offer_line : Seat → ℕ → Option Condition → Offer → Event
offer_line giver number condition sale = event.Ruled giver number (ruling.Obeyed condition (order.Play (play.Offer sale)))

-- a game, and the same with the OFFER of a seat obeyed at some place since its last round began
pub record IsOffered (giver : Seat) (sale : Offer) (game offered : Game) : Type 0 where
  pub before : List Event
  pub after : List Event
  pub number : ℕ
  pub condition : Option Condition
  pub same_round : NoRoundBegins after
  pub game_is : game ≡ record { seats = game.seats; events = before ++ after }
  pub offered_is : offered ≡ record {
    seats = game.seats;
    events = before ++ offer_line giver number condition sale ∷ after;
  }

-- a train whose row lacks only an offer has a row that says OK, at the same price, once that is made
abbrev pub OfferedTrainsAreTold : Type 0
OfferedTrainsAreTold =
    (game offered : Game) (company : Company) (kind : Kind) (from : TrainSource) (price : ℤ) (giver : Seat)
    (sale : Offer) → train_answer game company kind from ≡ WithConsent price giver sale
    → IsOffered giver sale game offered → train_answer offered company kind from ≡ Obeyed price

-- so has a private
abbrev pub OfferedPrivatesAreTold : Type 0
OfferedPrivatesAreTold =
    (game offered : Game) (company : Company) (private : Private) (cost : ℕ) (price : ℤ) (giver : Seat)
    (sale : Offer) → private_answer game company private cost ≡ WithConsent price giver sale
    → IsOffered giver sale game offered → private_answer offered company private cost ≡ Obeyed price

-- and the line of such a train is obeyed then, in a turn of a company that is past its pay
abbrev pub OfferedTrainsAreObeyed : Type 0
OfferedTrainsAreObeyed =
    (by : Operator) (turn : TurnState) (offered : Game) (line : Numbered) (kind : Kind) (from : TrainSource)
    (price : ℤ) (giver : Seat) (sale : Offer) (new : TurnState) → is_unpaid turn.progress ≡ false
    → train_answer turn.game by.company kind from ≡ WithConsent price giver sale
    → IsOffered giver sale turn.game offered
    → OrderLeads by (turn_state offered turn.progress) line (order.Play (play.BuyTrain kind from)) new
    → new ≡ train_told by (turn_state offered turn.progress) line kind from (Obeyed price)

-- so is that of such a private
abbrev pub OfferedPrivatesAreObeyed : Type 0
OfferedPrivatesAreObeyed =
    (by : Operator) (turn : TurnState) (offered : Game) (line : Numbered) (private : Private) (cost : ℕ)
    (price : ℤ) (giver : Seat) (sale : Offer) (new : TurnState)
    → private_answer turn.game by.company private cost ≡ WithConsent price giver sale
    → IsOffered giver sale turn.game offered
    → OrderLeads by (turn_state offered turn.progress) line (order.Play (play.BuyOwnedPrivate private cost)) new
    → new ≡ private_told by (turn_state offered turn.progress) line private cost (Obeyed price)
