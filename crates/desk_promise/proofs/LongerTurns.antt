-- What a company buys, and what its president sells for it, only adds events at the end of the list.
use Rattle.std.proofs.Common.{[], ◌∷◌, Option, Some, None, pos}
use Rattle.std.specs.Int.Signed.{lt_z}
use Rattle.certs.specs.declared.share_deal.Sale.{Sale}
use Rattle.desk_promise.proofs.Longer.{◌⨾◌, GoesOn, by_events, by_sale, stays}
use Rattle.events.specs.declared.event.Event.{Event}
use Rattle.events.specs.declared.event.Event.TheVariants as event
use Rattle.forced_purchase.specs.Forced.{concluded, next_to_sell, one_share, sold_further, sold_singly, with_aid, with_one_sold}
use Rattle.forced_purchase.specs.Raise.{after_presidents_sale}
use Rattle.forced_purchase.specs.Shortfall.{cheapest, falls_short, lack_of}
use Rattle.forced_purchase.specs.declared.operator.Operator.{Operator}
use Rattle.purchases.proofs.TrainSteps.{IsPassedOn, of_bop, of_choice, of_iterate, of_next, of_phase, of_trade}
use Rattle.purchases.proofs.TrainSteps.{of_train_owner}
use Rattle.purchases.specs.Phases.{with_phase}
use Rattle.purchases.specs.Train.{after_train, begins_phase, train_bought, train_purchase_cost, with_trade}
use Rattle.purchases.specs.declared.train.TrainPurchase.{TrainPurchase}
use Rattle.tables.specs.declared.roster.Company.{Company}
use Rattle.totals.specs.LookBack.{Game, with_event}
use Rattle.totals.specs.Trains.{at_least_zero}

-- a game goes on with more events
abbrev pub Lengthens : Game → Game → Type 0
Lengthens old new = GoesOn old.events new.events

lengthens_on : IsPassedOn Lengthens
lengthens_on = record { same = λ game. stays; both = λ a b c first second. first ⨾ second }

by_event : (game : Game) (its : Event) → Lengthens game (with_event game its)
by_event game its = by_events game.events (its ∷ [])

-- the train that goes to a company
abbrev train_came : Company → TrainPurchase → Event
train_came company purchase = event.Train company purchase.kind purchase.from (train_purchase_cost purchase)

-- by what follows once a train has gone to it
pub by_train_came : (game : Game) (company : Company) (purchase : TrainPurchase)
    → Lengthens (with_event (with_trade game company purchase.trade_in) (train_came company purchase))
    (after_train game company purchase)
by_train_came game company purchase =
    let came : Game = with_event (with_trade game company purchase.trade_in) (train_came company purchase) in
    let all : Game = train_bought game company purchase in
    let phase : Event = event.Phase purchase.kind in
    let followed : Game = with_phase all purchase.kind in
    let bop : Lengthens came all =
    of_bop Lengthens lengthens_on (λ now private. by_event now (event.Closed private)) came company in
    let later : Lengthens (with_event all phase) followed =
    of_phase Lengthens lengthens_on (λ now private. by_event now (event.Closed private))
    (λ kind. of_train_owner Lengthens lengthens_on kind (λ now owner. by_event now (event.Rusted owner kind)))
    (of_next Lengthens lengthens_on (λ now its kind. by_event now (event.Discarded its kind))) all purchase.kind in
    let whole : Lengthens came followed = bop ⨾ by_event all phase ⨾ later in
    of_choice Lengthens (begins_phase game.events purchase.from purchase.kind) came followed all whole bop

-- by the purchase of a train, and what follows from it
pub by_train : (game : Game) (company : Company) (purchase : TrainPurchase)
    → Lengthens game (after_train game company purchase)
by_train game company purchase =
    let traded : Game = with_trade game company purchase.trade_in in
    let trade : Lengthens game traded =
    of_trade Lengthens lengthens_on (λ now its kind. by_event now (event.Traded its kind)) game company purchase.trade_in in
    trade ⨾ by_event traded (train_came company purchase) ⨾ by_train_came game company purchase

-- by a sale of a president
pub by_presidents_sale : (by : Operator) (game : Game) (sale : Sale) → Lengthens game (after_presidents_sale by game sale)
by_presidents_sale by game sale = by_sale game by.president sale.company sale.shares

-- by one more share that is sold, and by as many as must be
by_one_sold : (by : Operator) (game : Game) (found : Option Company) → Lengthens game (with_one_sold by game found)
by_one_sold by game None = stays
by_one_sold by game (Some company) = by_presidents_sale by game (one_share company)

by_further : (by : Operator) (game : Game) → Lengthens game (sold_further by game)
unfolding sold_further
by_further by game =
    of_choice Lengthens (falls_short by game) game (with_one_sold by game (next_to_sell by game)) game
    (by_one_sold by game (next_to_sell by game)) stays

pub by_singly : (by : Operator) (game : Game) → Lengthens game (sold_singly by game)
unfolding sold_singly
by_singly by game = of_iterate Lengthens (sold_further by) lengthens_on (by_further by) 40 game

-- by the purchase of a train that must be bought, or a bankruptcy
by_aid : (by : Operator) (game : Game) → Lengthens game (with_aid by game)
unfolding with_aid
by_aid by game =
    of_choice Lengthens (lt_z (pos 0) (lack_of game by.company)) game
    (with_event game (event.Aid by.president by.company (at_least_zero (lack_of game by.company)))) game
    (by_event game (event.Aid by.president by.company (at_least_zero (lack_of game by.company)))) stays

pub by_conclusion : (by : Operator) (game : Game) → Lengthens game (concluded by game)
unfolding concluded
by_conclusion by game =
    of_choice Lengthens (falls_short by game) game (with_event game (event.Bankrupt by.president))
    (after_train (with_aid by game) by.company (cheapest game.events)) (by_event game (event.Bankrupt by.president))
    (by_aid by game ⨾ by_train (with_aid by game) by.company (cheapest game.events))
