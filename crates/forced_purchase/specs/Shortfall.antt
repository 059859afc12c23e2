-- What a company lacks that must buy a train. It buys the cheapest that the bank or the pool sells,
-- from the bank if both sell it. Its president pays what the company lacks, by their cash minus
-- their standing bids. They fall short if that is less.
use Rattle.std.specs.Prelude.{Bool, if◌then◌else◌, List, [], ◌∷◌, None, ℤ, pos, ◌-ℤ◌}
use Rattle.std.specs.Int.Signed.{lt_z}
use Rattle.events.specs.Event.{party_of_company}
use Rattle.events.specs.declared.event.Event.{Event}
use Rattle.events.specs.declared.event.TrainSeller.{TrainSeller}
use Rattle.events.specs.declared.event.TrainSeller.TheVariants as seller
use Rattle.totals.specs.Bids.{free_cash_of}
use Rattle.totals.specs.LookBack.{Game, cash_of}
use Rattle.totals.specs.Trains.{trains_held}
use Rattle.purchases.specs.Train.{numbered_kinds, sells, train_purchase_cost}
use Rattle.purchases.specs.declared.train.TrainPurchase.{TrainPurchase}
use Rattle.forced_purchase.specs.declared.operator.Operator.{Operator}
use Rattle.tables.specs.declared.rolling_stock.Kind.{Kind}
use Rattle.tables.specs.declared.rolling_stock.Kind.TheVariants.{Diesel}
use Rattle.tables.specs.declared.roster.Company.{Company}

-- the purchase of a train of a kind, for which none is traded in
abbrev pub purchase_without_trade_in : Kind → TrainSeller → TrainPurchase
purchase_without_trade_in kind from = record { kind = kind; from = from; trade_in = None; asked = None }

-- the first of these kinds that is for sale, from the bank if it sells the kind, otherwise from the
-- pool; a D of the bank if none is
unfoldable pub first_on_sale : List Event → List Kind → TrainPurchase
first_on_sale events [] = purchase_without_trade_in Diesel seller.Bank
first_on_sale events (kind ∷ others) = if sells events kind then purchase_without_trade_in kind seller.Bank
    else (if lt_z (pos 0) (trains_held events None kind) then purchase_without_trade_in kind seller.BankPool
    else first_on_sale events others)

-- the cheapest train that is for sale: the kinds are in the order of their price, and the bank
-- sells a D once it has none of the others
unfoldable pub cheapest : List Event → TrainPurchase
cheapest events = first_on_sale events numbered_kinds

-- what the company lacks for it, in dollars; nothing if it has enough
unfoldable pub lack_of : Game → Company → ℤ
lack_of game company =
    pos (train_purchase_cost (cheapest game.events)) -ℤ cash_of game.seats game.events (party_of_company company)

-- the president has less cash than that free of standing bids
unfoldable pub falls_short : Operator → Game → Bool
falls_short by game = lt_z (free_cash_of game.seats game.events by.president) (lack_of game by.company)
