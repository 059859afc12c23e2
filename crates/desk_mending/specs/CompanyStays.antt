-- Which rules of a company's purchases are broken whatever the other players order before a line in its round. They are
-- judged by the game as the round began, once the privates have paid, and by what the player's own sheet orders.
use Rattle.std.specs.Prelude.{ℕ, ◌+◌, ◌==◌, ◌&&◌, ◌||◌, Bool, true, false, not, List, Option, Some, None, ℤ, pos, ◌+ℤ◌}
use Rattle.std.specs.Int.Signed.{le_z}
use Rattle.std.specs.List.{list_any}
use Rattle.desk_mending.specs.Written.{buys_kind, parts_of}
use Rattle.events.specs.declared.event.Event.{Event}
use Rattle.events.specs.declared.event.Holder.{Holder}
use Rattle.events.specs.declared.event.Holder.TheVariants as holder
use Rattle.events.specs.declared.event.TrainSeller.{TrainSeller}
use Rattle.events.specs.declared.event.TrainSeller.TheVariants as seller
use Rattle.events.specs.declared.ruling.PrivateRule.{PrivateRule}
use Rattle.events.specs.declared.ruling.PrivateRule.TheVariants as of_private
use Rattle.events.specs.declared.ruling.TrainRule.{TrainRule}
use Rattle.events.specs.declared.ruling.TrainRule.TheVariants as of_train
use Rattle.order_grammar.specs.declared.play.PlayOrder.{PlayOrder}
use Rattle.purchases.specs.Private.{private_costs_too_much}
use Rattle.purchases.specs.Train.{has_trains, is_left, may_be_traded, train_costs_too_much, train_purchase_cost}
use Rattle.purchases.specs.Train.{traded_count}
use Rattle.purchases.specs.declared.train.TrainPurchase.{TrainPurchase}
use Rattle.tables.specs.Roster.{same_company}
use Rattle.tables.specs.Train.{limit_of, same_kind}
use Rattle.tables.specs.declared.rolling_stock.Kind.{Kind}
use Rattle.tables.specs.declared.rolling_stock.Kind.TheVariants.{Diesel, Five, Six}
use Rattle.tables.specs.declared.roster.Company.{Company}
use Rattle.tables.specs.declared.roster.Private.{Private}
use Rattle.totals.specs.LookBack.{Game, owner_of}
use Rattle.totals.specs.Trains.{phase_of, trains_held}

-- the bank has sold the last train of a kind, and none returns to it; the pool may get one
abbrev pub stays_unsold : List Event → TrainSeller → Kind → Bool
stays_unsold events seller.Bank kind = not (is_left events kind)
stays_unsold events other kind = false

-- the trains of a company that never rust
abbrev pub lasting_trains : List Event → Company → ℤ
lasting_trains events company =
    (trains_held events (Some company) Five +ℤ trains_held events (Some company) Six)
    +ℤ trains_held events (Some company) Diesel

-- A company stays full: without the trains that may rust it has as many as it may, and the sheet parts with none. The limit
-- does not rise.
abbrev pub stays_full : List Event → List PlayOrder → Company → Option Kind → Bool
stays_full events sheet company trade_in =
    le_z (pos (limit_of (phase_of events) + traded_count trade_in)) (lasting_trains events company)
    && not (list_any (parts_of company) sheet)

-- A company has no train as the round begins, so that nothing brings cash before it buys: it runs none and sells none.
abbrev pub stays_poor : List Event → Company → Bool
stays_poor events company = not (has_trains events company)

-- no price of 0 is agreed on
abbrev pub asks_nothing : TrainSeller → TrainPurchase → Bool
asks_nothing (seller.Company company) its = train_purchase_cost its == 0
asks_nothing other its = false

-- a company never buys from itself; another seller may come to have such a train
abbrev pub is_from_itself : Company → TrainSeller → Bool
is_from_itself company (seller.Company its) = same_company company its
is_from_itself company other = false

-- The trade-in stays wrong: trains of the kind are never traded in for that one; or the company has none as the round begins,
-- and the sheet buys none.
abbrev pub trade_stays_wrong : List Event → List PlayOrder → Company → Kind → Option Kind → Bool
trade_stays_wrong events sheet company kind None = false
trade_stays_wrong events sheet company kind (Some old) =
    not (same_kind kind Diesel && may_be_traded old)
    || (le_z (trains_held events (Some company) old) (pos 0) && not (list_any (buys_kind old) sheet))

-- a rule of the purchase of a train is broken whatever others do
abbrev pub train_stays : Game → List PlayOrder → Company → TrainPurchase → TrainRule → Bool
train_stays start sheet company its of_train.NotOnSale = stays_unsold start.events its.from its.kind
train_stays start sheet company its of_train.TrainLimit = stays_full start.events sheet company its.trade_in
train_stays start sheet company its of_train.CashTooSmall =
    stays_poor start.events company && train_costs_too_much start company its
train_stays start sheet company its of_train.NoConsent = asks_nothing its.from its
train_stays start sheet company its of_train.NotSellers = is_from_itself company its.from
train_stays start sheet company its of_train.NoTradeIn =
    trade_stays_wrong start.events sheet company its.kind its.trade_in
train_stays start sheet company its of_train.NoDiscard = false

-- no player owns the private: it is closed, or a company's, which sells none
abbrev pub is_no_players : Option Holder → Bool
is_no_players (Some (holder.Seat seat)) = false
is_no_players other = true

-- A rule of the purchase of a private is broken whatever others do. Others may begin phase 3, and its owner may offer it.
abbrev pub private_stays : Game → Company → Private → ℕ → PrivateRule → Bool
private_stays start company private price of_private.TooEarly = false
private_stays start company private price of_private.WrongPrice = true
private_stays start company private price of_private.NoConsent = is_no_players (owner_of start.events private)
private_stays start company private price of_private.NeverSold = true
private_stays start company private price of_private.CashTooSmall =
    stays_poor start.events company && private_costs_too_much start company price
