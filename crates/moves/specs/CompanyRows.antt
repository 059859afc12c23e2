-- The rows of a company's turn. Of each kind of train a company is told what becomes of the order to
-- buy one of the bank, without a trade-in and with a 4, a 5 or a 6 traded in, one of the pool, and
-- one of each company that has it, for 1 dollar. Then of each private what becomes of the order to
-- buy it for half of its face value, and for twice that. Each is judged by the rules of the
-- purchase, in the game as it stands. If only a consent is lacking, the row says who is asked for
-- it: the president of the company that sells the train, or the player who owns the private.
use Rattle.std.specs.Prelude.{ℕ, ◌*◌, ◌/◌, ◌++◌, List, [], ◌∷◌, Option, Some, None, option_map, pos}
use Rattle.std.specs.List.{flat_map}
use Rattle.events.specs.declared.event.Event.{Event}
use Rattle.events.specs.declared.event.Holder.{Holder}
use Rattle.events.specs.declared.event.Holder.TheVariants as holder
use Rattle.events.specs.declared.ruling.Refusal.{Refusal}
use Rattle.events.specs.declared.ruling.Refusal.TheVariants as refusal
use Rattle.moves.specs.Rows.{answer_if_given, only_if}
use Rattle.moves.specs.declared.row.Answer.{Answer}
use Rattle.moves.specs.declared.row.Row.{Row}
use Rattle.order_grammar.specs.declared.order.Offer.{Offer}
use Rattle.order_grammar.specs.declared.order.Offer.TheVariants as offer
use Rattle.order_grammar.specs.declared.order.TrainSource.{TrainSource}
use Rattle.order_grammar.specs.declared.order.TrainSource.TheVariants as source
use Rattle.order_grammar.specs.declared.play.PlayOrder.TheVariants.{BuyOwnedPrivate, BuyTrain}
use Rattle.purchases.specs.Discard.{has_train}
use Rattle.purchases.specs.Private.{private_judgement_by}
use Rattle.purchases.specs.Train.{purchase_of, train_judgement_by, train_purchase_cost}
use Rattle.purchases.specs.declared.consents.Consents.{Consents}
use Rattle.purchases.specs.declared.consents.Consents.TheVariants.{All, OfGame}
use Rattle.tables.specs.Roster.{companies, face_of, privates}
use Rattle.tables.specs.Train.{kinds}
use Rattle.tables.specs.declared.rolling_stock.Kind.{Kind}
use Rattle.tables.specs.declared.rolling_stock.Kind.TheVariants.{Four, Five, Six}
use Rattle.tables.specs.declared.roster.Company.{Company}
use Rattle.tables.specs.declared.roster.Private.{Private}
use Rattle.tables.specs.declared.seat.Seat.{Seat}
use Rattle.totals.specs.LookBack.{Game, owner_of}
use Rattle.totals.specs.Shares.{president_of}

-- an order to buy a train of a kind, and where
pub record TrainOrder : Type 0 where
  pub kind : Kind
  pub from : TrainSource

-- an order to buy a private, and for how much
pub record PrivateOrder : Type 0 where
  pub private : Private
  pub price : ℕ

abbrev pub train_order : Kind → TrainSource → TrainOrder
train_order kind from = record { kind = kind; from = from }

abbrev pub private_order : Private → ℕ → PrivateOrder
private_order private price = record { private = private; price = price }

-- where the bank and the pool could sell a train: the bank also with a train traded in
abbrev pub sources_of_bank : List TrainSource
sources_of_bank = source.Bank ∷ source.Trade Four ∷ source.Trade Five ∷ source.Trade Six ∷ source.BankPool ∷ []

-- to buy a train of a kind of the bank or the pool
abbrev pub trains_of_bank : Kind → List TrainOrder
trains_of_bank kind = flat_map (λ from. train_order kind from ∷ []) sources_of_bank

-- to buy one of this company for a dollar, if it has one
abbrev pub train_of : List Event → Kind → Company → List TrainOrder
train_of events kind seller =
    only_if (has_train events seller kind) (train_order kind (source.Company seller 1) ∷ [])

-- to buy one of each company that has one
abbrev pub trains_of_sellers : List Event → Kind → List TrainOrder
trains_of_sellers events kind = flat_map (train_of events kind) companies

-- to buy a train of a kind
abbrev pub trains_of_kind : List Event → Kind → List TrainOrder
trains_of_kind events kind = trains_of_bank kind ++ trains_of_sellers events kind

-- to buy a train
unfoldable pub train_orders : List Event → List TrainOrder
train_orders events = flat_map (trains_of_kind events) kinds

-- who is asked for a train, and for what: the president of the company that sells it
abbrev pub asked_for_train : List Event → Company → Kind → TrainSource → Option (Seat × Offer)
asked_for_train events buyer kind (source.Company seller price) =
    option_map (λ giver. (giver, offer.Train kind seller buyer price)) (president_of events seller)
asked_for_train events buyer kind other = None

-- what a train costs
abbrev pub train_cost : Kind → TrainSource → ℕ
train_cost kind from = train_purchase_cost (purchase_of kind from)

-- the first rule that the order to buy a train breaks, by these consents
unfoldable pub train_refusal_by : Consents → Game → Company → Kind → TrainSource → Option Refusal
train_refusal_by consents game company kind from =
    option_map refusal.Train (train_judgement_by consents game company (purchase_of kind from))

-- what becomes of the order to buy a train
abbrev pub train_answer : Game → Company → Kind → TrainSource → Answer
train_answer game company kind from =
    answer_if_given (pos (train_cost kind from)) (train_refusal_by OfGame game company kind from)
    (train_refusal_by All game company kind from) (asked_for_train game.events company kind from)

-- its row
abbrev pub train_row : Game → Company → TrainOrder → Row
train_row game company its =
    record { order = BuyTrain its.kind its.from; answer = train_answer game company its.kind its.from }

-- to buy a private for half of its face value, and for twice that
abbrev pub orders_of_private : Private → List PrivateOrder
orders_of_private private =
    private_order private (face_of private / 2) ∷ private_order private (face_of private * 2) ∷ []

-- and of all privates
abbrev pub private_orders : List PrivateOrder
private_orders = flat_map orders_of_private privates

-- this owner is asked, if it is a player
abbrev pub asked_of_owner : Option Holder → Offer → Option (Seat × Offer)
asked_of_owner (Some (holder.Seat giver)) sale = Some (giver, sale)
asked_of_owner other sale = None

-- who is asked for a private, and for what: the player who owns it
abbrev pub asked_for_private : List Event → Company → Private → ℕ → Option (Seat × Offer)
asked_for_private events buyer private price =
    asked_of_owner (owner_of events private) (offer.Private private buyer price)

-- the first rule that the order to buy a private breaks, by these consents
unfoldable pub private_refusal_by : Consents → Game → Company → Private → ℕ → Option Refusal
private_refusal_by consents game company private price =
    option_map refusal.Private (private_judgement_by consents game company private price)

-- what becomes of the order to buy a private
abbrev pub private_answer : Game → Company → Private → ℕ → Answer
private_answer game company private price =
    answer_if_given (pos price) (private_refusal_by OfGame game company private price)
    (private_refusal_by All game company private price) (asked_for_private game.events company private price)

-- its row
abbrev pub private_row : Game → Company → PrivateOrder → Row
private_row game company its =
    record {
      order = BuyOwnedPrivate its.private its.price;
      answer = private_answer game company its.private its.price;
    }
