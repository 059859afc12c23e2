-- Which cause of a rule it was that refused a line, of a rule with several. Each is what the rule
-- itself looks at, in the order in which it looks.
use Rattle.std.specs.Prelude.{ℕ, Bool, ◌==◌, List, Option, Some, None, if◌then◌else◌}
use Rattle.certs.specs.Sale.{none_is_left}
use Rattle.certs.specs.declared.share_deal.Sale.{Sale}
use Rattle.desk_base.specs.declared.cause.Cause.{Cause}
use Rattle.desk_base.specs.declared.cause.Cause.TheVariants as cause
use Rattle.desk_why.specs.Done.{last_done}
use Rattle.desk_why.specs.declared.done.Done.{Done}
use Rattle.desk_why.specs.declared.done.Done.TheVariants as done
use Rattle.desk_why.specs.declared.sheet_line.LinePlace.{LinePlace}
use Rattle.desk_why.specs.declared.sheet_line.LinePlace.TheVariants as place
use Rattle.events.specs.declared.event.Event.{Event}
use Rattle.events.specs.declared.ruling.OpeningRule.TheVariants.{NotOfOpening}
use Rattle.events.specs.declared.ruling.Refusal.{Refusal}
use Rattle.events.specs.declared.ruling.Refusal.TheVariants as refusal
use Rattle.events.specs.declared.ruling.StockRule.TheVariants.{NotOfStock, PresidentMustStay}
use Rattle.events.specs.declared.ruling.TrainRule.TheVariants.{NoConsent, NoTradeIn, NotSellers}
use Rattle.map_tables.specs.declared.rules.LayRule.TheVariants as lay
use Rattle.map_tables.specs.declared.rules.RunRule.TheVariants as run
use Rattle.order_grammar.specs.declared.order.Offer.TheVariants as offer
use Rattle.order_grammar.specs.declared.order.Order.{Order}
use Rattle.order_grammar.specs.declared.order.Order.TheVariants as order
use Rattle.order_grammar.specs.declared.order.TrainSource.{TrainSource}
use Rattle.order_grammar.specs.declared.order.TrainSource.TheVariants as source
use Rattle.order_grammar.specs.declared.play.PlayOrder.TheVariants as play
use Rattle.purchases.specs.Discard.{has_train}
use Rattle.purchases.specs.Train.{has_trains, may_be_traded}
use Rattle.tables.specs.declared.rolling_stock.Kind.{Kind}
use Rattle.tables.specs.declared.rolling_stock.Kind.TheVariants.{Diesel}
use Rattle.tables.specs.declared.roster.Company.{Company}
use Rattle.tables.specs.declared.round.Round.{Round}
use Rattle.tables.specs.declared.round.Round.TheVariants as round
use Rattle.totals.specs.LookBack.{Game}
use Rattle.tables.specs.declared.seat.Seat.{Seat}

-- of a line that has no place above the first head of a sheet for this round
abbrev pub cause_above : Round → Cause
cause_above (round.Opening number) = cause.AboveTurnOfOpening
cause_above (round.Stock set) = cause.AboveTurnOfStock
cause_above (round.Operating set number) = cause.AboveCompany

-- of a line that has no place where it stands
abbrev pub cause_out_of_place : Round → LinePlace → Cause
cause_out_of_place its place.Standing = cause_above its
cause_out_of_place its place.Turn = cause.InTurn
cause_out_of_place its (place.Orders company) = cause.InOrders

-- of a lay, by what the company has done last in its turn: its step is past, or its lay is used
abbrev pub cause_of_lay : Option Done → Cause
cause_of_lay None = cause.LayUsed
cause_of_lay (Some done.Token) = cause.TokenPlaced
cause_of_lay (Some done.Run) = cause.HasRun
cause_of_lay (Some done.Pay) = cause.PaidOrWithheld
cause_of_lay (Some done.Purchase) = cause.PaidOrWithheld

-- of a PAY or a WITHHOLD: its step is past, or nothing is earned
abbrev pub cause_of_pay : Option Done → Cause
cause_of_pay (Some done.Pay) = cause.PaidOrWithheld
cause_of_pay other = cause.NothingEarned

-- of a RUN of a train of a kind: each such train has run, or the company has none
abbrev pub cause_of_kind : List Event → Company → Kind → Cause
cause_of_kind events company kind = if has_train events company kind then cause.AllHaveRun else cause.NoSuchTrain

-- of a RUN BEST: a train has run, or the company has none
abbrev pub cause_of_best : List Event → Company → Cause
cause_of_best events company = if has_trains events company then cause.SomeHaveRun else cause.NoTrain

-- of a RUN of a train of a kind, and of a RUN BEST: there is no such train, or it has run
abbrev pub cause_of_run : List Event → Company → Order → Cause
cause_of_run events company (order.Run kind run) = cause_of_kind events company kind
cause_of_run events company other = cause_of_best events company

-- of a RAISE for a company without a train, by what it has done last: it is at the purchase that it
-- must make, for which there is money enough, or it need not buy since it could run no train
abbrev pub cause_of_purchase : Option Done → Cause
cause_of_purchase (Some done.Purchase) = cause.NotShort
cause_of_purchase other = cause.RunsNone

-- of a RAISE for a company: no purchase is due since it has a train, or there is another reason
abbrev pub cause_of_raise : List Event → Company → Cause
cause_of_raise events company =
    if has_trains events company then cause.HasTrain else cause_of_purchase (last_done events company)

-- the price of a train that an order or an offer names, if it names one
abbrev pub price_named : Order → Option ℕ
price_named (order.Play (play.BuyTrain kind (source.Company seller price))) = Some price
price_named (order.Play (play.Offer (offer.Train kind seller buyer price))) = Some price
price_named other = None

-- of a sale without consent: a price of 0, to which nobody consents
abbrev pub cause_of_price : ℕ → Option Cause
cause_of_price price = if price == 0 then Some cause.PriceIsZero else None

-- of a sale of a train, if its price is named
abbrev pub cause_of_price_if : Option ℕ → Option Cause
cause_of_price_if None = None
cause_of_price_if (Some price) = cause_of_price price

-- of a train of a kind for which another is traded in
abbrev pub cause_of_trade : Kind → Kind → Cause
cause_of_trade Diesel trade_in = if may_be_traded trade_in then cause.NoSuchTrain else cause.NeverTraded
cause_of_trade other trade_in = cause.NotForDiesel

-- of a company that is to sell a train, and has such a train, or has not: it is the buyer
abbrev pub cause_of_owner : Bool → Option Cause
cause_of_owner has = if has then Some cause.BuysFromItself else None

-- of a train that is bought there
abbrev pub cause_of_source : List Event → Kind → TrainSource → Option Cause
cause_of_source events kind (source.Company seller price) = cause_of_owner (has_train events seller kind)
cause_of_source events kind other = None

-- of an order to buy a train of a company
abbrev pub cause_of_seller : List Event → Order → Option Cause
cause_of_seller events (order.Play (play.BuyTrain kind from)) = cause_of_source events kind from
cause_of_seller events other = None

-- of an order with a trade-in
abbrev pub cause_of_trade_in : Order → Option Cause
cause_of_trade_in (order.Play (play.BuyTrain kind (source.Trade trade_in))) = Some (cause_of_trade kind trade_in)
cause_of_trade_in other = None

-- of a sale by a president who must stay: nobody else has two shares, or a presidency would move
abbrev pub cause_of_sale : Game → Seat → Sale → Cause
cause_of_sale game seat sale =
    if none_is_left game.seats game.events seat sale then cause.NobodyElse else cause.PresidencyMoves

-- of a sale of so many shares of a company
abbrev pub cause_of_shares : Game → Seat → Company → ℕ → Cause
cause_of_shares game seat company shares =
    cause_of_sale game seat (record { company = company; shares = shares })

-- of an order to sell
abbrev pub cause_of_stay : Game → Seat → Order → Option Cause
cause_of_stay game seat (order.Play (play.Sell company shares)) = Some (cause_of_shares game seat company shares)
cause_of_stay game seat (order.Play (play.Raise company shares)) = Some (cause_of_shares game seat company shares)
cause_of_stay game seat other = None

-- of a rule that refused an order in a turn: the turn has no such order
abbrev pub cause_in_turn : Refusal → Option Cause
cause_in_turn (refusal.Opening NotOfOpening) = Some cause.TurnOfOpening
cause_in_turn (refusal.Stock NotOfStock) = Some cause.TurnOfStock
cause_in_turn other = None

-- of a rule that refused an order among those for a company
abbrev pub cause_in_orders : List Event → Company → Order → Refusal → Option Cause
cause_in_orders events company its (refusal.Lay lay.StepUsed) = Some (cause_of_lay (last_done events company))
cause_in_orders events company its (refusal.Pay rule) = Some (cause_of_pay (last_done events company))
cause_in_orders events company its (refusal.Run run.NoTrain) = Some (cause_of_run events company its)
cause_in_orders events company its (refusal.Stock NotOfStock) = Some (cause_of_raise events company)
cause_in_orders events company its (refusal.Train NotSellers) = cause_of_seller events its
cause_in_orders events company its (refusal.Train NoTradeIn) = cause_of_trade_in its
cause_in_orders events company its other = None

-- of a rule that refused an order at this place, if the place matters
abbrev pub cause_there : List Event → LinePlace → Order → Refusal → Option Cause
cause_there events place.Standing its rule = None
cause_there events place.Turn its rule = cause_in_turn rule
cause_there events (place.Orders company) its rule = cause_in_orders events company its rule

-- of a rule that refused an order of a seat at this place; none if the rule has one cause alone, or
-- what is told beside it says which it was
abbrev pub cause_of : Game → Seat → LinePlace → Order → Refusal → Option Cause
cause_of game seat there its (refusal.Train NoConsent) = cause_of_price_if (price_named its)
cause_of game seat there its (refusal.Stock PresidentMustStay) = cause_of_stay game seat its
cause_of game seat there its other = cause_there game.events there its other
