-- From a row of a company that names a consent to the report. The row is told where nobody has orders, and names the offer
-- that is lacking. Take the file with the sheet of whoever is to make it, with just the OFFER, the sheet of the president
-- with the company and the line, and empty sheets of all others. In its report the line is obeyed, and moves what the row
-- tells, at the head that play comes to with the OFFER.
use Rattle.std.specs.Prelude.{◌≡◌, ℕ, ◌<◌, ℤ, pos, List, [], ◌∷◌, None, Some, length, ⊤}
use Rattle.desk_promise.specs.CompanyLines.{IsHeadAwaited}
use Rattle.desk_promise.specs.CompanyRows.{IsRowInReport}
use Rattle.desk_promise.specs.LineFile.{IsOfCompanies}
use Rattle.desk_promise.specs.OfferFile.{offered_file}
use Rattle.desk_promise.specs.StandingRows.{standing_file}
use Rattle.forced_purchase.specs.declared.operator.Operator.{Operator}
use Rattle.foresight.specs.Ahead.{AheadState, OrdersState, opened_state, withheld_in}
use Rattle.foresight.specs.Orders.{HaveTurns, IsAhead}
use Rattle.foresight.specs.declared.round_ahead.Ahead.TheVariants.{AtOrders}
use Rattle.moves.specs.CompanyRows.{PrivateOrder, TrainOrder, private_answer, train_answer}
use Rattle.moves.specs.ConsentLaws.{IsOffered}
use Rattle.moves.specs.StandingRows.{standing_answer}
use Rattle.moves.specs.declared.row.Answer.TheVariants.{Obeyed, WithConsent}
use Rattle.operating.specs.Pay.{withheld_if_unpaid}
use Rattle.operating.specs.TurnEnd.{IsDue}
use Rattle.order_grammar.specs.Spells.{HasSmallOffer}
use Rattle.order_grammar.specs.declared.order.Offer.{Offer}
use Rattle.order_grammar.specs.declared.order.Order.TheVariants.{Play}
use Rattle.order_grammar.specs.declared.play.PlayOrder.{PlayOrder}
use Rattle.order_grammar.specs.declared.play.PlayOrder.TheVariants as play
use Rattle.report.specs.Report.{IsReport}
use Rattle.rounds.specs.Play.{Between}
use Rattle.sheets.specs.File.{IsAccepted, players_of}
use Rattle.tables.specs.declared.roster.Company.{Company}
use Rattle.tables.specs.declared.round.Round.{Round}
use Rattle.tables.specs.declared.round.Round.TheVariants.{Operating}
use Rattle.tables.specs.declared.seat.Seat.{Seat}
use Rattle.totals.specs.LookBack.{Game}

-- no company that had its turn had to buy a train
abbrev pub NoneIsForced : (before : List Company) (old new : AheadState) → HaveTurns before old new → Type 0
NoneIsForced [] old new turns = ⊤
NoneIsForced (company ∷ others) old new turns =
    (IsDue (withheld_if_unpaid company turns.2.turn.last).game company → ⊥) × NoneIsForced others turns.0 new turns.3

-- a player may make an offer before the round that is awaited, in a file that is not refused
pub record IsOfferMade (file : List ℕ) (last : Between) (round : Round) (giver : Seat) (sale : Offer) : Type 0 where
  pub accepted : IsAccepted (standing_file file round giver (play.Offer sale))
  pub small : HasSmallOffer sale
  pub giving : giver.0 < length (players_of file)
  pub may : standing_answer last.game.events giver (Play (play.Offer sale)) ≡ Obeyed (pos 0)

-- with the OFFER of another player as the only line of all sheets, the company comes to the head of its orders
pub record IsHeadOffered (file : List ℕ) (last : Between) (round : Round) (company : Company) (giver : Seat) (sale : Offer)
    (offered : OrdersState) : Type 0 where
  pub accepted : IsAccepted (standing_file file round giver (play.Offer sale))
  pub small : HasSmallOffer sale
  pub giving : giver.0 < length (players_of file)
  pub ahead : IsAhead company
      (opened_state (standing_file file round giver (play.Offer sale)) (Some giver) round last.game) (AtOrders offered)
  pub apart : giver.0 ≡ offered.by.president.0 → ⊥

-- that head is the one that is told, but for the OFFER that was obeyed in the round
pub record IsSameHead (giver : Seat) (sale : Offer) (orders offered : OrdersState) : Type 0 where
  pub by : offered.by ≡ orders.by
  pub game : IsOffered giver sale orders.turn.game offered.turn.game
  pub withheld : IsOffered giver sale (withheld_in orders).turn.game (withheld_in offered).turn.game

-- in the report of the file with an order and the offer, if it is not refused, at this head the line is obeyed, and moves
-- what the order moves at this price
abbrev pub IsObeyedIfOffered : List ℕ → Game → Round → Seat → Offer → Operator → Game → PlayOrder → ℤ → Type 0
IsObeyedIfOffered file before round giver sale by head order price =
    IsOfCompanies order → IsAccepted (offered_file file round giver sale by.president by.company order) → (text : List ℕ)
    → IsReport (offered_file file round giver sale by.president by.company order) text
    → IsRowInReport (offered_file file round giver sale by.president by.company order) text before round by head
    (record { order = order; answer = Obeyed price })

-- a train that is told with a consent is bought at the price that is told, once that is offered
abbrev pub OfferedTrainsAreReported : Type 0
OfferedTrainsAreReported =
    (file : List ℕ) (last : Between) (set number : ℕ) (company : Company) (orders offered : OrdersState) (giver : Seat)
    (sale : Offer) → IsHeadAwaited file last (Operating set number) company orders
    → IsHeadOffered file last (Operating set number) company giver sale offered → IsSameHead giver sale orders offered
    → (its : TrainOrder) (price : ℤ)
    → train_answer (withheld_in orders).turn.game orders.by.company its.kind its.from ≡ WithConsent price giver sale
    → IsObeyedIfOffered file last.game (Operating set number) giver sale offered.by (withheld_in offered).turn.game
    (play.BuyTrain its.kind its.from) price

-- so is a private
abbrev pub OfferedPrivatesAreReported : Type 0
OfferedPrivatesAreReported =
    (file : List ℕ) (last : Between) (set number : ℕ) (company : Company) (orders offered : OrdersState) (giver : Seat)
    (sale : Offer) → IsHeadAwaited file last (Operating set number) company orders
    → IsHeadOffered file last (Operating set number) company giver sale offered → IsSameHead giver sale orders offered
    → (its : PrivateOrder) (price : ℤ)
    → private_answer orders.turn.game orders.by.company its.private its.price ≡ WithConsent price giver sale
    → IsObeyedIfOffered file last.game (Operating set number) giver sale offered.by offered.turn.game
    (play.BuyOwnedPrivate its.private its.price) price

-- the head with the offer, which is the one that is told, but for the OFFER
pub record OfferedHead (file : List ℕ) (last : Between) (round : Round) (company : Company) (giver : Seat) (sale : Offer)
    (orders : OrdersState) : Type 0 where
  pub offered : OrdersState
  pub head : IsHeadOffered file last round company giver sale offered
  pub same : IsSameHead giver sale orders offered

-- play comes to such a head, if no company before must buy a train
abbrev pub OfferedHeadsAreReached : Type 0
OfferedHeadsAreReached =
    (file : List ℕ) (last : Between) (set number : ℕ) (company : Company) (orders : OrdersState)
    → (awaited : IsHeadAwaited file last (Operating set number) company orders)
    → NoneIsForced awaited.ahead.taken.before (opened_state file None (Operating set number) last.game) awaited.ahead.mid
    awaited.ahead.taken.turns → (giver : Seat) (sale : Offer)
    → IsOfferMade file last (Operating set number) giver sale → (giver.0 ≡ orders.by.president.0 → ⊥)
    → OfferedHead file last (Operating set number) company giver sale orders
