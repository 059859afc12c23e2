-- TRAIN: the purchase of a train by a company. The bank sells the least kind of 2 to 6 of which
-- some are left. From the first 6 that it has sold it also sells a D, of which there is any number.
-- The bank pool sells what is in it. A 4, 5 or 6 that the company has may be traded in for a D of
-- the bank, which is cheaper then. Another company sells a train that it has, if its president
-- consents, at the price that the order names, which is at least 1.
--
-- A train that is traded in goes to the pool, and then the train goes to the company. BOP closes
-- once BO buys. The first train of a later kind from the bank begins its phase.
use Rattle.std.specs.Prelude.{ℕ, ◌==◌, ◌≤◌, unwrap_or, Bool, true, false, not, ◌&&◌, ◌||◌, nat_lt, if◌then◌else◌, List}
use Rattle.std.specs.Prelude.{[], ◌∷◌, Option, Some, None, pos, ◌-ℤ◌}
use Rattle.std.specs.Int.Signed.{lt_z}
use Rattle.events.specs.Event.{party_of_company}
use Rattle.events.specs.declared.event.Event.{Event}
use Rattle.events.specs.declared.event.Event.TheVariants as event
use Rattle.events.specs.declared.event.TrainSeller.{TrainSeller}
use Rattle.events.specs.declared.event.TrainSeller.TheVariants as seller
use Rattle.events.specs.declared.ruling.TrainRule.{TrainRule}
use Rattle.events.specs.declared.ruling.TrainRule.TheVariants.{NotOnSale, TrainLimit, CashTooSmall, NoConsent}
use Rattle.events.specs.declared.ruling.TrainRule.TheVariants.{NotSellers, NoTradeIn}
use Rattle.totals.specs.LookBack.{Game, cash_of, with_event}
use Rattle.totals.specs.Shares.{president_of}
use Rattle.totals.specs.Trains.{phase_of, train_count, trains_held, trains_sold}
use Rattle.purchases.specs.Consents.{agrees_by}
use Rattle.purchases.specs.Discard.{has_train}
use Rattle.purchases.specs.Phases.{with_closed, with_phase}
use Rattle.purchases.specs.declared.consents.Consents.{Consents}
use Rattle.purchases.specs.declared.consents.Consents.TheVariants.{OfGame}
use Rattle.purchases.specs.declared.train.TrainPurchase.{TrainPurchase}
use Rattle.order_grammar.specs.declared.order.Offer.{Offer}
use Rattle.order_grammar.specs.declared.order.Offer.TheVariants as offer
use Rattle.order_grammar.specs.declared.order.TrainSource.{TrainSource}
use Rattle.order_grammar.specs.declared.order.TrainSource.TheVariants as source
use Rattle.tables.specs.Roster.{same_company}
use Rattle.tables.specs.Rules.{Rule, first_broken}
use Rattle.tables.specs.Train.{limit_of, index_of_kind, same_kind, trains_of}
use Rattle.tables.specs.declared.rolling_stock.Kind.{Kind}
use Rattle.tables.specs.declared.rolling_stock.Kind.TheVariants.{Two, Three, Four, Five, Six, Diesel}
use Rattle.tables.specs.declared.roster.Company.{Company}
use Rattle.tables.specs.declared.roster.Company.TheVariants as company
use Rattle.tables.specs.declared.roster.Private.TheVariants as private
use Rattle.tables.specs.declared.seat.Seat.{Seat}

-- the purchase that a TRAIN line orders
abbrev pub purchase_of : Kind → TrainSource → TrainPurchase
purchase_of kind source.Bank = record { kind = kind; from = seller.Bank; trade_in = None; asked = None }
purchase_of kind (source.Trade trade_in) = record
    { kind = kind; from = seller.Bank; trade_in = Some trade_in; asked = None }
purchase_of kind source.BankPool = record { kind = kind; from = seller.BankPool; trade_in = None; asked = None }
purchase_of kind (source.Company company price) =
    record { kind = kind; from = seller.Company company; trade_in = None; asked = Some price }

-- some of this many are left, if this many are sold
abbrev pub are_left : Option ℕ → ℕ → Bool
are_left None sold = true
are_left (Some number) sold = nat_lt sold number

-- the bank has trains of a kind left
abbrev pub is_left : List Event → Kind → Bool
is_left events kind = are_left (trains_of kind).number (trains_sold events kind)

-- the first of these kinds that the bank has some left of
abbrev pub first_left_of : List Event → List Kind → Option Kind
first_left_of events [] = None
first_left_of events (kind ∷ others) = if is_left events kind then Some kind else first_left_of events others

-- the kinds of which the bank sells only the least that is left
abbrev pub numbered_kinds : List Kind
numbered_kinds = Two ∷ Three ∷ Four ∷ Five ∷ Six ∷ []

-- the least of them that has some left
abbrev pub first_left : List Event → Option Kind
first_left events = first_left_of events numbered_kinds

-- the kind that is found is this one
abbrev pub is_kind : Option Kind → Kind → Bool
is_kind None kind = false
is_kind (Some one) kind = same_kind one kind

-- the bank sells a D: it has sold a 6
abbrev pub sells_diesels : List Event → Bool
sells_diesels events = nat_lt 0 (trains_sold events Six)

-- the bank sells trains of a kind
abbrev pub sells : List Event → Kind → Bool
sells events kind = is_kind (first_left events) kind || (same_kind kind Diesel && sells_diesels events)

-- such a train is on sale there
abbrev pub is_on_sale : List Event → TrainSeller → Kind → Bool
is_on_sale events seller.Bank kind = sells events kind
is_on_sale events seller.BankPool kind = lt_z (pos 0) (trains_held events None kind)
is_on_sale events (seller.Company company) kind = true

-- how many are traded in
abbrev pub traded_count : Option Kind → ℕ
traded_count None = 0
traded_count (Some kind) = 1

-- the company would have more trains than the phase allows; one that is to be traded in does not
-- count, whether the company has it or not
abbrev pub is_at_train_limit : List Event → Company → Option Kind → Bool
is_at_train_limit events company trade_in =
    not (lt_z (train_count events (Some company) -ℤ pos (traded_count trade_in)) (pos (limit_of (phase_of events))))

-- the price of a train of a kind for a company that trades in a train: a D is cheaper then
abbrev pub price_for_trade : Kind → ℕ
price_for_trade Diesel = 800
price_for_trade other = (trains_of other).price

-- a train of the kind may be traded in for a D
abbrev pub may_be_traded : Kind → Bool
may_be_traded Four = true
may_be_traded Five = true
may_be_traded Six = true
may_be_traded other = false

-- what a train of the bank or the pool costs
abbrev pub price_of_train : Kind → Option Kind → ℕ
price_of_train kind None = (trains_of kind).price
price_of_train kind (Some trade_in) = price_for_trade kind

-- the price that an order names is one that a line can spell
abbrev pub IsSmallPurchase : TrainPurchase → Type 0
IsSmallPurchase purchase = unwrap_or purchase.asked 0 ≤ 99999

-- what a train costs; one of a company costs what the order names
abbrev pub train_purchase_cost : TrainPurchase → ℕ
train_purchase_cost purchase = unwrap_or purchase.asked (price_of_train purchase.kind purchase.trade_in)

-- a train costs more than the company has
abbrev pub train_costs_too_much : Game → Company → TrainPurchase → Bool
train_costs_too_much game company purchase =
    lt_z (cash_of game.seats game.events (party_of_company company)) (pos (train_purchase_cost purchase))

-- a train that the company has may be traded in for one of this kind
abbrev pub may_trade : List Event → Company → Kind → Kind → Bool
may_trade events company kind trade_in =
    same_kind kind Diesel && (may_be_traded trade_in && lt_z (pos 0) (trains_held events (Some company) trade_in))

-- a train is to be traded in that is not there, or that may not be traded in
abbrev pub is_no_trade_in : List Event → Company → Kind → Option Kind → Bool
is_no_trade_in events company kind None = false
is_no_trade_in events company kind (Some trade_in) = not (may_trade events company kind trade_in)

-- one president consents to a sale to the other by these consents, if there are both
abbrev pub presidents_agree_by : Consents → List Event → Option Seat → Option Seat → Offer → Bool
presidents_agree_by consents events (Some giver) (Some taker) sale = agrees_by consents events giver taker sale
presidents_agree_by consents events giver taker sale = false

-- one president consents to a sale to the other in the game, if there are both
abbrev pub presidents_agree : List Event → Option Seat → Option Seat → Offer → Bool
presidents_agree events giver taker sale = presidents_agree_by OfGame events giver taker sale

-- by these consents a company that is to sell a train has not consented, or the price is 0
abbrev pub is_not_given_by : Consents → List Event → Company → TrainPurchase → TrainSeller → Bool
is_not_given_by consents events buyer purchase (seller.Company company) = train_purchase_cost purchase == 0
    || not (presidents_agree_by consents events (president_of events company) (president_of events buyer)
    (offer.Train purchase.kind company buyer (train_purchase_cost purchase)))
is_not_given_by consents events buyer purchase other = false

-- a company that is to sell a train has not consented in the game, or the price is 0
abbrev pub is_not_given : List Event → Company → TrainPurchase → TrainSeller → Bool
is_not_given events buyer purchase from = is_not_given_by OfGame events buyer purchase from

-- by these consents the company that sells the train has not consented to exactly this sale
abbrev pub lacks_consent_by : Consents → List Event → Company → TrainPurchase → Bool
lacks_consent_by consents events buyer purchase = is_not_given_by consents events buyer purchase purchase.from

-- the company that sells the train has not consented to exactly this sale
abbrev pub lacks_consent : List Event → Company → TrainPurchase → Bool
lacks_consent events buyer purchase = lacks_consent_by OfGame events buyer purchase

-- a company that is to sell a train has none of the kind, or is the buyer
abbrev pub is_not_sellers : List Event → Company → Kind → TrainSeller → Bool
is_not_sellers events buyer kind seller.Bank = false
is_not_sellers events buyer kind seller.BankPool = false
is_not_sellers events buyer kind (seller.Company company) =
    not (has_train events company kind) || same_company buyer company

-- the rules of a purchase by a company, by these consents
abbrev pub train_purchase_rules_by : Consents → Game → Company → TrainPurchase → List (Rule TrainRule)
train_purchase_rules_by consents game company purchase =
    record { code = NotOnSale; broken = not (is_on_sale game.events purchase.from purchase.kind) }
    ∷ record { code = TrainLimit; broken = is_at_train_limit game.events company purchase.trade_in }
    ∷ record { code = CashTooSmall; broken = train_costs_too_much game company purchase }
    ∷ record { code = NoConsent; broken = lacks_consent_by consents game.events company purchase }
    ∷ record { code = NotSellers; broken = is_not_sellers game.events company purchase.kind purchase.from }
    ∷ record { code = NoTradeIn; broken = is_no_trade_in game.events company purchase.kind purchase.trade_in } ∷ []

-- the rules of a purchase by a company
abbrev pub train_purchase_rules : Game → Company → TrainPurchase → List (Rule TrainRule)
train_purchase_rules game company purchase = train_purchase_rules_by OfGame game company purchase

-- the first rule that a purchase by a company breaks, by these consents
abbrev pub train_judgement_by : Consents → Game → Company → TrainPurchase → Option TrainRule
train_judgement_by consents game company purchase =
    first_broken (train_purchase_rules_by consents game company purchase)

-- the first rule that a purchase by a company breaks
abbrev pub train_judgement : Game → Company → TrainPurchase → Option TrainRule
train_judgement game company purchase = train_judgement_by OfGame game company purchase

-- the company has a train
abbrev pub has_trains : List Event → Company → Bool
has_trains events company = lt_z (pos 0) (train_count events (Some company))

-- with TRADED, if a train is traded in
abbrev pub with_trade : Game → Company → Option Kind → Game
with_trade game company None = game
with_trade game company (Some kind) = with_event game (event.Traded company kind)

-- with CLOSED of BOP, if BO has bought
abbrev pub with_bop_closed : Game → Company → Game
with_bop_closed game buyer = if same_company buyer company.BaltimoreOhio then with_closed game
    private.BaltimoreOhio else game

-- after the train has gone to the company
abbrev pub train_bought : Game → Company → TrainPurchase → Game
train_bought game company purchase = with_bop_closed (with_event (with_trade game company purchase.trade_in)
    (event.Train company purchase.kind purchase.from (train_purchase_cost purchase))) company

-- the purchase is that of the first train of a later kind from the bank
abbrev pub begins_phase : List Event → TrainSeller → Kind → Bool
begins_phase events seller.Bank kind =
    trains_sold events kind == 0 && nat_lt (index_of_kind (phase_of events)) (index_of_kind kind)
begins_phase events seller.BankPool kind = false
begins_phase events (seller.Company company) kind = false

-- after a purchase by a company, and what follows from it
abbrev pub after_train : Game → Company → TrainPurchase → Game
after_train game company purchase =
    if begins_phase game.events purchase.from purchase.kind then with_phase (train_bought game company purchase)
    purchase.kind else train_bought game company purchase
