-- All rules of its kind that an order breaks at a moment of a game: the rows of the tables of each kind that are true. Not
-- asked are rules of steps, which depend on the lines above in the same sheet, and a row that has no meaning unless another
-- one is kept.
use Rattle.std.specs.Prelude.{ℕ, Bool, true, false, not, List, [], ◌∷◌, None}
use Rattle.certs.specs.Purchase.{is_no_par, share_purchase_rules}
use Rattle.certs.specs.Sale.{is_not_held, sale_rules}
use Rattle.certs.specs.declared.share_deal.Purchase.{Purchase}
use Rattle.certs.specs.declared.share_deal.Purchase.TheVariants as purchase
use Rattle.certs.specs.declared.share_deal.Sale.{Sale}
use Rattle.desk_map_rules.specs.Broken.{broken_of}
use Rattle.desk_map_rules.specs.RunAsked.{best_broken, pay_broken}
use Rattle.desk_rules.specs.OpeningAsked.{before_turns_broken, opening_broken}
use Rattle.desk_rules.specs.StandingAsked.{before_companies_broken}
use Rattle.desk_rules.specs.declared.site.Site.{Site}
use Rattle.desk_rules.specs.declared.site.Site.TheVariants as site
use Rattle.events.specs.declared.event.Event.{Event}
use Rattle.events.specs.declared.ruling.PrivateRule.{PrivateRule}
use Rattle.events.specs.declared.ruling.PrivateRule.TheVariants as of_private
use Rattle.events.specs.declared.ruling.Refusal.{Refusal}
use Rattle.events.specs.declared.ruling.Refusal.TheVariants as refusal
use Rattle.events.specs.declared.ruling.StockRule.{StockRule}
use Rattle.events.specs.declared.ruling.StockRule.TheVariants as of_stock
use Rattle.events.specs.declared.ruling.TrainRule.{TrainRule}
use Rattle.events.specs.declared.ruling.TrainRule.TheVariants as of_train
use Rattle.order_grammar.specs.declared.play.PlayOrder.{PlayOrder}
use Rattle.order_grammar.specs.declared.play.PlayOrder.TheVariants as play
use Rattle.purchases.specs.Private.{private_rules}
use Rattle.purchases.specs.Train.{is_not_sellers, purchase_of, train_purchase_rules}
use Rattle.purchases.specs.declared.train.TrainPurchase.{TrainPurchase}
use Rattle.stock_round.specs.Exchange.{exchange_rules}
use Rattle.tables.specs.Roster.{same_private}
use Rattle.tables.specs.declared.roster.Company.{Company}
use Rattle.tables.specs.declared.roster.Private.{Private}
use Rattle.tables.specs.declared.roster.Private.TheVariants.{BaltimoreOhio}
use Rattle.tables.specs.declared.seat.Seat.{Seat}
use Rattle.totals.specs.LookBack.{Game}

-- What is asked of a purchase of shares. That the player has bought in the turn is a rule of steps. What a certificate
-- costs has no meaning if the sum is no par value.
abbrev pub is_asked_of_purchase : Purchase → StockRule → Bool
is_asked_of_purchase its of_stock.BoughtBefore = false
is_asked_of_purchase its of_stock.CashTooSmall = not (is_no_par its)
is_asked_of_purchase its other = true

-- the rules that a purchase of shares breaks
abbrev pub purchase_broken : Game → Seat → Purchase → List Refusal
purchase_broken game seat its =
    broken_of (is_asked_of_purchase its) refusal.Stock (share_purchase_rules game.seats game.events seat its None)

-- What is asked of a sale. What the president would keep has no meaning if the player does not hold what is to be sold.
abbrev pub is_asked_of_sale : List Event → Seat → Sale → StockRule → Bool
is_asked_of_sale events seat sale of_stock.PresidentMustStay = not (is_not_held events seat sale)
is_asked_of_sale events seat sale other = true

-- the rules that a sale in a stock round breaks
abbrev pub sale_broken : Game → Seat → Sale → List Refusal
sale_broken game seat sale =
    broken_of (is_asked_of_sale game.events seat sale) refusal.Stock (sale_rules game.seats game.events seat sale None)

-- the rule that an exchange of MH breaks, if it breaks it
abbrev pub exchange_broken : List Event → Seat → List Refusal
exchange_broken events seat = broken_of (λ rule. true) refusal.Stock (exchange_rules events seat)

-- What is asked of a purchase of a train. No consent is enough if the seller has no such train, or is the buyer.
abbrev pub is_asked_of_train : List Event → Company → TrainPurchase → TrainRule → Bool
is_asked_of_train events company its of_train.NoConsent = not (is_not_sellers events company its.kind its.from)
is_asked_of_train events company its other = true

-- the rules that a company breaks by the purchase of a train
abbrev pub train_broken : Game → Company → TrainPurchase → List Refusal
train_broken game company its =
    broken_of (is_asked_of_train game.events company its) refusal.Train (train_purchase_rules game company its)

-- What is asked of the purchase of a private. No consent is enough for BOP.
abbrev pub is_asked_of_private : Private → PrivateRule → Bool
is_asked_of_private private of_private.NoConsent = not (same_private private BaltimoreOhio)
is_asked_of_private private other = true

-- the rules that a company breaks by the purchase of a private
abbrev pub private_broken : Game → Company → Private → ℕ → List Refusal
private_broken game company private price =
    broken_of (is_asked_of_private private) refusal.Private (private_rules game company private price)

-- the rules that an order of a seat in a turn of a stock round breaks: an order that has no place there breaks that one
abbrev pub seat_broken : Game → Seat → PlayOrder → List Refusal
seat_broken game seat (play.Par company price) = purchase_broken game seat (purchase.Par company price)
seat_broken game seat (play.BuyShare company from) = purchase_broken game seat (purchase.Share company from)
seat_broken game seat (play.Sell company shares) =
    sale_broken game seat (record { company = company; shares = shares })
seat_broken game seat play.ExchangeMohawk = exchange_broken game.events seat
seat_broken game seat other = refusal.Stock of_stock.NotOfStock ∷ []

-- the rules that an order for a company breaks; none of another order
abbrev pub company_broken : Game → Company → PlayOrder → List Refusal
company_broken game company (play.BuyTrain kind from) = train_broken game company (purchase_of kind from)
company_broken game company (play.BuyOwnedPrivate private price) = private_broken game company private price
company_broken game company play.RunBest = best_broken game.events company
company_broken game company play.Pay = pay_broken game.events company
company_broken game company other = []

-- the rules of its kind that an order of play of a seat breaks, by where it stands
abbrev pub broken_rules : Game → Seat → Site → PlayOrder → List Refusal
broken_rules game seat site.BeforeTurns order = before_turns_broken game.events order
broken_rules game seat site.OpeningTurn order = opening_broken game seat order
broken_rules game seat site.StockTurn order = seat_broken game seat order
broken_rules game seat site.BeforeCompanies order = before_companies_broken game.events seat order
broken_rules game seat (site.Orders company) order = company_broken game company order
