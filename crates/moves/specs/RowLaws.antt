-- What a row tells is what becomes of its line. Take an order that has a place in a line whose
-- condition holds, as the next line of a turn or as a standing line. If its row says that it is
-- obeyed, it is obeyed, and if the row says that a rule refuses it, that rule refuses it. If the row
-- names a consent, it is the rule of the consent that refuses it.
use Rattle.std.specs.Prelude.{◌≡◌, ℕ, Bool, true, List, Option, Some, None, Ok}
use Rattle.events.specs.declared.event.Event.{Event}
use Rattle.events.specs.declared.ruling.PrivateRule.TheVariants as private_rule
use Rattle.events.specs.declared.ruling.Refusal.{Refusal}
use Rattle.events.specs.declared.ruling.Refusal.TheVariants as refusal
use Rattle.events.specs.declared.ruling.TrainRule.TheVariants as train_rule
use Rattle.forced_purchase.specs.declared.operator.Operator.{Operator}
use Rattle.history.specs.Conditions.{is_met}
use Rattle.moves.specs.CompanyRows.{private_answer, train_answer}
use Rattle.moves.specs.OpeningRows.{opening_answer}
use Rattle.moves.specs.StandingRows.{before_answer, standing_answer}
use Rattle.moves.specs.StockRows.{stock_answer}
use Rattle.moves.specs.declared.row.Answer.{Answer}
use Rattle.moves.specs.declared.row.Answer.TheVariants.{Obeyed, WithConsent, Refused}
use Rattle.operating.specs.CompanyOrders.{OrderLeads}
use Rattle.operating.specs.Pay.{withheld_if_unpaid}
use Rattle.operating.specs.Progress.{at_start}
use Rattle.operating.specs.TurnState.{TurnState, ruled, turn_state}
use Rattle.order_grammar.specs.declared.order.Offer.{Offer}
use Rattle.order_grammar.specs.declared.order.Offer.TheVariants as offer
use Rattle.order_grammar.specs.declared.order.Order.{Order}
use Rattle.order_grammar.specs.declared.order.Order.TheVariants.{Play}
use Rattle.order_grammar.specs.declared.order.TrainSource.{TrainSource}
use Rattle.order_grammar.specs.declared.play.PlayOrder.TheVariants.{BuyOwnedPrivate, BuyTrain}
use Rattle.privates.specs.Standing.{has_place_before_turns, opening_standing_ruling}
use Rattle.privates.specs.Turn.{opening_line_ruling}
use Rattle.purchases.specs.Private.{private_bought}
use Rattle.purchases.specs.Standing.{has_place_before_companies, operating_standing_ruling}
use Rattle.purchases.specs.Train.{after_train, purchase_of}
use Rattle.sheets.specs.Part.{Numbered}
use Rattle.stock_round.specs.Turn.{stock_line_ruling}
use Rattle.stock_round.specs.declared.deals.ShareDeals.{ShareDeals}
use Rattle.tables.specs.declared.rolling_stock.Kind.{Kind}
use Rattle.tables.specs.declared.roster.Private.{Private}
use Rattle.tables.specs.declared.seat.Seat.{Seat}
use Rattle.totals.specs.LookBack.{Game}
use Rattle.turns.specs.RoundOfTurns.{in_turn}
use Rattle.turns.specs.Ruling.{has_place_in_turn, judged}

-- the rule by which a sale without its consent is refused
abbrev pub consent_rule : Offer → Refusal
consent_rule (offer.Train kind seller buyer price) = refusal.Train train_rule.NoConsent
consent_rule (offer.Private private buyer price) = refusal.Private private_rule.NoConsent

-- the rule that an answer tells, if it tells one
abbrev pub rule_told : Answer → Option Refusal
rule_told (Obeyed price) = None
rule_told (WithConsent price giver sale) = Some (consent_rule sale)
rule_told (Refused rule) = Some rule

-- a line orders this, under a condition that holds, if it has one
pub record Orders (events : List Event) (line : Numbered) (order : Order) : Type 0 where
  pub read : line.reading ≡ Ok order
  pub met : is_met events line.condition ≡ true

-- what the row of an opening tells becomes of the next line of a seat's turn
abbrev pub OpeningRowsAreRuled : Type 0
OpeningRowsAreRuled =
    (game : Game) (seat : Seat) (used : Bool) (line : Numbered) (order : Order) →
    has_place_in_turn order ≡ true → Orders game.events line order
    → opening_line_ruling game.seats seat (in_turn game.events used) line
    ≡ judged line.condition order (rule_told (opening_answer game seat used order))

-- so does that of a stock round
abbrev pub StockRowsAreRuled : Type 0
StockRowsAreRuled =
    (game : Game) (seat : Seat) (deals : ShareDeals) (line : Numbered) (order : Order) →
    has_place_in_turn order ≡ true → Orders game.events line order
    → stock_line_ruling game.seats seat (in_turn game.events deals) line
    ≡ judged line.condition order (rule_told (stock_answer game seat deals.bought order))

-- and that of a standing line of an opening
abbrev pub RowsBeforeAreRuled : Type 0
RowsBeforeAreRuled =
    (events : List Event) (line : Numbered) (order : Order) →
    has_place_before_turns order ≡ true → Orders events line order
    → opening_standing_ruling events line ≡ judged line.condition order (rule_told (before_answer events order))

-- and that of a standing line of an operating round
abbrev pub StandingRowsAreRuled : Type 0
StandingRowsAreRuled =
    (events : List Event) (seat : Seat) (line : Numbered) (order : Order) →
    has_place_before_companies order ≡ true → Orders events line order
    → operating_standing_ruling events seat line
    ≡ judged line.condition order (rule_told (standing_answer events seat order))

-- after the order to buy a private in this line, of which this is told: it is bought if that tells
-- no rule
abbrev pub private_told : Operator → TurnState → Numbered → Private → ℕ → Answer → TurnState
private_told by turn line private price answer =
    ruled by turn line (Play (BuyOwnedPrivate private price)) (rule_told answer)
    (λ (after : TurnState). turn_state (private_bought after.game by.company private price) after.progress)

-- what the row of a private tells becomes of it in the first line of a company's orders
abbrev pub PrivateRowsAreRuled : Type 0
PrivateRowsAreRuled =
    (by : Operator) (game : Game) (line : Numbered) (private : Private) (price : ℕ) (new : TurnState)
    → OrderLeads by (turn_state game at_start) line (Play (BuyOwnedPrivate private price)) new
    → new ≡ private_told by (turn_state game at_start) line private price
    (private_answer game by.company private price)

-- after the order to buy a train in this line, of which this is told
abbrev pub train_told : Operator → TurnState → Numbered → Kind → TrainSource → Answer → TurnState
train_told by turn line kind from answer =
    ruled by turn line (Play (BuyTrain kind from)) (rule_told answer)
    (λ (after : TurnState). turn_state (after_train after.game by.company (purchase_of kind from)) after.progress)

-- what the row of a train tells in the game after the company has withheld becomes of it in the
-- first line of a company's orders: before such a line the company withholds by itself
abbrev pub TrainRowsAreRuled : Type 0
TrainRowsAreRuled =
    (by : Operator) (game : Game) (line : Numbered) (kind : Kind) (from : TrainSource) (new : TurnState)
    → OrderLeads by (turn_state game at_start) line (Play (BuyTrain kind from)) new
    → new ≡ train_told by (withheld_if_unpaid by.company (turn_state game at_start)) line kind from
    (train_answer (withheld_if_unpaid by.company (turn_state game at_start)).game by.company kind from)
