-- What moves by an order at the price that its row tells. The report has these events right below the line of the order.
-- Whoever buys pays that price, whoever sells shares gets it, and a bid of it stands. An order that is refused moves
-- nothing.
use Rattle.std.specs.Prelude.{◌≡◌, ℕ, List, [], ◌∷◌, ◌++◌, Option, Some, None, ℤ, pos}
use Rattle.events.specs.declared.event.Event.{Event}
use Rattle.events.specs.declared.event.Event.TheVariants as event
use Rattle.events.specs.declared.event.Holder.TheVariants as holder
use Rattle.forced_purchase.specs.declared.operator.Operator.{Operator}
use Rattle.moves.specs.declared.row.Answer.{Answer}
use Rattle.moves.specs.declared.row.Answer.TheVariants.{Obeyed, Refused, WithConsent}
use Rattle.order_grammar.specs.declared.order.ShareSource.{ShareSource}
use Rattle.order_grammar.specs.declared.order.ShareSource.TheVariants.{InitialOffering}
use Rattle.order_grammar.specs.declared.order.TrainSource.{TrainSource}
use Rattle.order_grammar.specs.declared.play.PlayOrder.{PlayOrder}
use Rattle.order_grammar.specs.declared.play.PlayOrder.TheVariants as play
use Rattle.purchases.specs.Train.{purchase_of}
use Rattle.stock_round.specs.Par.{president_shares}
use Rattle.tables.specs.declared.rolling_stock.Kind.{Kind}
use Rattle.tables.specs.declared.roster.Company.{Company}
use Rattle.tables.specs.declared.roster.Private.{Private}
use Rattle.tables.specs.declared.seat.Seat.{Seat}
use Rattle.totals.specs.LookBack.{Game, owner_of}

-- the exchange costs nothing
pub record IsExchange (seat : Seat) (amount : ℕ) (said : List Event) : Type 0 where
  pub free : amount ≡ 0
  pub from : ShareSource
  pub is : said ≡ event.Exchanged seat from ∷ []

-- what a seat's order of an opening or a stock round moves at this price; to start a company sets its par value first
abbrev pub MovesInTurn : Seat → PlayOrder → ℕ → List Event → Type 0
MovesInTurn seat (play.BuyPrivate private) amount said = said ≡ event.Sold private seat amount ∷ []
MovesInTurn seat (play.Bid private sum) amount said = said ≡ event.Bids private seat amount ∷ []
MovesInTurn seat (play.Par company par) amount said =
    said ≡ event.Par company par ∷ event.Bought company seat president_shares InitialOffering amount ∷ []
MovesInTurn seat (play.BuyShare company from) amount said = said ≡ event.Bought company seat 1 from amount ∷ []
MovesInTurn seat (play.Sell company shares) amount said = said ≡ event.Sells company seat shares amount ∷ []
MovesInTurn seat play.ExchangeMohawk amount said = IsExchange seat amount said
MovesInTurn seat other amount said = ⊥

-- an order that is obeyed moves this at the price that is told
pub record MovesAt (price : ℤ) (Moves : ℕ → List Event → Type 0) (said : List Event) : Type 0 where
  pub amount : ℕ
  pub priced : price ≡ pos amount
  pub moves : Moves amount said

-- what an order with this answer moves
abbrev pub MovesAsTold : Answer → (ℕ → List Event → Type 0) → List Event → Type 0
MovesAsTold (Obeyed price) Moves said = MovesAt price Moves said
MovesAsTold (WithConsent price giver sale) Moves said = said ≡ []
MovesAsTold (Refused rule) Moves said = said ≡ []

-- the train that is traded in, if one is
abbrev pub trade_in_of : Company → Option Kind → List Event
trade_in_of company None = []
trade_in_of company (Some kind) = event.Traded company kind ∷ []

-- a train that a company buys at this price
abbrev pub train_moved : Company → Kind → TrainSource → ℕ → List Event
train_moved company kind from amount =
    trade_in_of company (purchase_of kind from).trade_in
    ++ event.Train company kind (purchase_of kind from).from amount ∷ []

-- a private that a company buys at this price of the player who owns it at this head
pub record IsPrivateMoved (head : Game) (company : Company) (private : Private) (amount : ℕ) (said : List Event) : Type 0
  where
    pub seller : Seat
    pub owns : owner_of head.events private ≡ Some (holder.Seat seller)
    pub is : said ≡ event.PrivateBought private company seller amount ∷ []

-- what an order of a company moves at this price; by a RAISE its president is paid for shares
abbrev pub MovesInOrders : Game → Operator → PlayOrder → ℕ → List Event → Type 0
MovesInOrders head by (play.BuyTrain kind from) amount said = said ≡ train_moved by.company kind from amount
MovesInOrders head by (play.BuyOwnedPrivate private price) amount said =
    IsPrivateMoved head by.company private amount said
MovesInOrders head by (play.Raise company shares) amount said =
    said ≡ event.Sells company by.president shares amount ∷ []
MovesInOrders head by other amount said = ⊥
