-- Which broken rules the other players may mend by what they order before a line in its round. If they cannot, the rule is
-- broken whatever they do.
use Rattle.std.specs.Prelude.{ℕ, Bool, true, false, not, List, Option, Some}
use Rattle.certs.specs.declared.share_deal.Purchase.TheVariants as purchase
use Rattle.desk_mending.specs.CompanyStays.{private_stays, train_stays}
use Rattle.desk_mending.specs.MapStays.{best_stays, lay_stays, pay_stays, run_stays, token_stays}
use Rattle.desk_mending.specs.OpeningStays.{opening_stays}
use Rattle.desk_mending.specs.Stays.{exchange_stays, purchase_stays, sale_stays}
use Rattle.events.specs.declared.event.Event.{Event}
use Rattle.events.specs.declared.ruling.PrivateRule.{PrivateRule}
use Rattle.events.specs.declared.ruling.Refusal.{Refusal}
use Rattle.events.specs.declared.ruling.Refusal.TheVariants as refusal
use Rattle.events.specs.declared.ruling.StockRule.{StockRule}
use Rattle.events.specs.declared.ruling.StockRule.TheVariants as of_stock
use Rattle.events.specs.declared.ruling.TrainRule.{TrainRule}
use Rattle.map_tables.specs.declared.place.Place.{Place}
use Rattle.map_tables.specs.declared.rules.LayRule.{LayRule}
use Rattle.map_tables.specs.declared.rules.RunRule.{RunRule}
use Rattle.map_tables.specs.declared.rules.TokenRule.{TokenRule}
use Rattle.operating.specs.MapState.{map_state_now}
use Rattle.order_grammar.specs.declared.order.Order.{Order}
use Rattle.order_grammar.specs.declared.order.Order.TheVariants as form
use Rattle.order_grammar.specs.declared.play.PlayOrder.{PlayOrder}
use Rattle.order_grammar.specs.declared.play.PlayOrder.TheVariants as play
use Rattle.purchases.specs.Train.{purchase_of}
use Rattle.tables.specs.declared.rolling_stock.Kind.{Kind}
use Rattle.tables.specs.declared.roster.Company.{Company}
use Rattle.tables.specs.declared.seat.Seat.{Seat}
use Rattle.totals.specs.LookBack.{Game}

-- an order has no place in a turn of a stock round
abbrev pub is_never_of_stock : StockRule → Bool
is_never_of_stock of_stock.NotOfStock = true
is_never_of_stock other = false

-- A rule of stock rounds is broken whatever others do. A RAISE may come to be needed.
abbrev pub stock_stays : Game → Seat → List PlayOrder → ℕ → PlayOrder → StockRule → Bool
stock_stays start seat above turn (play.Par company price) rule =
    purchase_stays start seat above turn (purchase.Par company price) rule
stock_stays start seat above turn (play.BuyShare company from) rule =
    purchase_stays start seat above turn (purchase.Share company from) rule
stock_stays start seat above turn (play.Sell company shares) rule =
    sale_stays start seat above (record { company = company; shares = shares }) rule
stock_stays start seat above turn play.ExchangeMohawk rule = exchange_stays start seat above turn rule
stock_stays start seat above turn (play.Raise company shares) rule = false
stock_stays start seat above turn other rule = is_never_of_stock rule

-- An order is ruled as an operating round begins: an OFFER or a DISCARD. Before it come only such orders, by which no train, no
-- private and no presidency passes.
abbrev pub is_ruled_first : PlayOrder → Bool
is_ruled_first (play.Offer sale) = true
is_ruled_first (play.Discard company kind) = true
is_ruled_first other = false

-- A rule of trains is broken whatever others do: each by an order that is ruled as the round begins, and by the purchase of a
-- train among the orders for a company those that stay so.
abbrev pub trains_stay : Game → List PlayOrder → Option Company → PlayOrder → TrainRule → Bool
trains_stay start sheet (Some company) (play.BuyTrain kind from) rule =
    train_stays start sheet company (purchase_of kind from) rule
trains_stay start sheet company order rule = is_ruled_first order

-- a rule of privates is broken whatever others do: the same, with the purchase of a private
abbrev pub privates_stay : Game → Option Company → PlayOrder → PrivateRule → Bool
privates_stay start (Some company) (play.BuyOwnedPrivate private price) rule =
    private_stays start company private price rule
privates_stay start company order rule = is_ruled_first order

-- a rule of lays is broken whatever others do, for an order among those for a company
abbrev pub lays_stay : Game → List PlayOrder → Option Company → PlayOrder → LayRule → Bool
lays_stay start sheet (Some company) (play.Lay lay) rule =
    lay_stays start (map_state_now start.events) sheet company lay rule
lays_stay start sheet company order rule = false

-- a rule of tokens
abbrev pub tokens_stay : Game → List PlayOrder → Option Company → PlayOrder → TokenRule → Bool
tokens_stay start sheet (Some company) (play.Token place) rule =
    token_stays start (map_state_now start.events) sheet company place rule
tokens_stay start sheet company order rule = false

-- a rule of a RUN BEST
abbrev pub bests_stay : List Event → Option Company → PlayOrder → RunRule → Bool
bests_stay start (Some company) play.RunBest rule = best_stays start company rule
bests_stay start company order rule = false

-- a rule of PAY; WITHHOLD has a rule of steps alone
abbrev pub pays_stay : List Event → Option Company → PlayOrder → Bool
pays_stay start (Some company) play.Pay = pay_stays start company
pays_stay start company order = false

-- A rule is broken whatever others do by an order of play. It is given the game as the round begins, the orders above the
-- line and those of the whole sheet, the number of the turn, and the company whose orders the line is among, if there is one.
abbrev pub play_stays :
    Game → Seat → List PlayOrder → List PlayOrder → ℕ → Option Company → PlayOrder → Refusal → Bool
play_stays start seat above sheet turn company order (refusal.Opening rule) = opening_stays start seat order rule
play_stays start seat above sheet turn company order (refusal.Stock rule) =
    stock_stays start seat above turn order rule
play_stays start seat above sheet turn company order (refusal.Lay rule) =
    lays_stay start sheet company order rule
play_stays start seat above sheet turn company order (refusal.Token rule) =
    tokens_stay start sheet company order rule
play_stays start seat above sheet turn company order (refusal.Run rule) =
    bests_stay start.events company order rule
play_stays start seat above sheet turn company order (refusal.Pay rule) = pays_stay start.events company order
play_stays start seat above sheet turn company order (refusal.Train rule) =
    trains_stay start sheet company order rule
play_stays start seat above sheet turn company order (refusal.Private rule) =
    privates_stay start company order rule
play_stays start seat above sheet turn company order other = false

-- A rule is broken whatever others do by a run: one of runs, or, in a turn, that it has no place there.
abbrev pub runs_stay :
    Game → List PlayOrder → Option Company → Kind → List Place → Refusal → Bool
runs_stay start sheet (Some company) kind places (refusal.Run rule) =
    run_stays start.events (map_state_now start.events) sheet company kind places rule
runs_stay start sheet company kind places (refusal.Stock rule) = is_never_of_stock rule
runs_stay start sheet company kind places other = false

-- the same for each order
abbrev pub stays :
    Game → Seat → List PlayOrder → List PlayOrder → ℕ → Option Company → Order → Refusal → Bool
stays start seat above sheet turn company (form.Play its) rule =
    play_stays start seat above sheet turn company its rule
stays start seat above sheet turn company (form.Run kind run) rule =
    runs_stay start sheet company kind run rule
stays start seat above sheet turn company other rule = false

-- others may mend it
abbrev pub others_can_mend :
    Game → Seat → List PlayOrder → List PlayOrder → ℕ → Option Company → Order → Refusal → Bool
others_can_mend start seat above sheet turn company order rule =
    not (stays start seat above sheet turn company order rule)
