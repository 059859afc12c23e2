-- Example for the chapter `buying-shares`: purchases of three players.
-- It is the second stock round. ANN, at seat 0, has started PRR at 100 and sold a share of it in
-- this round. BOB, at seat 1, has six shares of it, and CYD, at seat 2, none.
use Rattle.std.proofs.Common.{◌≡◌, refl, ℕ, List, [], ◌∷◌, ◌++◌, Option, Some, None}
use Rattle.certs.specs.Purchase.{is_at_limit, is_over_six, is_second, is_short_of_cash, is_sold_out_there}
use Rattle.certs.specs.Purchase.{purchase_judgement}
use Rattle.certs.specs.declared.share_deal.Purchase.{Purchase}
use Rattle.certs.specs.declared.share_deal.Purchase.TheVariants as purchase
use Rattle.events.specs.declared.event.Event.{Event}
use Rattle.events.specs.declared.event.Event.TheVariants as event
use Rattle.events.specs.declared.ruling.StockRule.{StockRule}
use Rattle.events.specs.declared.ruling.StockRule.TheVariants as rule
use Rattle.order_grammar.specs.declared.order.ShareSource.TheVariants.{InitialOffering, BankPool}
use Rattle.stock_round.specs.Buy.{after_purchase}
use Rattle.stock_round.specs.Par.{after_start}
use Rattle.tables.specs.Seat.{seat_at}
use Rattle.tables.specs.declared.roster.Company.TheVariants.{Pennsylvania, Erie}
use Rattle.tables.specs.declared.round.Round.TheVariants.{Stock}
use Rattle.totals.specs.LookBack.{Game}

abbrev before : List Event
before =
    event.Par Pennsylvania 100
    ∷ event.Bought Pennsylvania (seat_at 0) 2 InitialOffering 200
    ∷ event.President Pennsylvania (seat_at 0)
    ∷ event.Bought Pennsylvania (seat_at 1) 3 InitialOffering 300
    ∷ event.Bought Pennsylvania (seat_at 1) 3 InitialOffering 300
    ∷ event.President Pennsylvania (seat_at 1)
    ∷ event.Floats Pennsylvania 1000
    ∷ event.Round (Stock 2)
    ∷ event.Sells Pennsylvania (seat_at 0) 1 100
    ∷ event.Moves Pennsylvania (record { row = 1; column = 7 })
    ∷ []

abbrev game : List Event → Game
game events = record { seats = 3; events = events }

-- the first rule that a seat breaks by its first purchase of a turn
abbrev broken : ℕ → Purchase → Option StockRule
broken seat what = purchase_judgement 3 before (seat_at seat) what None

-- ANN has sold of PRR in this round (S6)
pub ann_has_sold : broken 0 (purchase.Share Pennsylvania BankPool) ≡ Some rule.SoldInRound
unfolding purchase_judgement is_sold_out_there is_short_of_cash is_at_limit is_over_six is_second
ann_has_sold = refl

-- BOB would have seven (S12)
pub bob_has_six : broken 1 (purchase.Share Pennsylvania BankPool) ≡ Some rule.OverSixShares
unfolding purchase_judgement is_sold_out_there is_short_of_cash is_at_limit is_over_six is_second
bob_has_six = refl

-- 80 is no par value (S8), PRR can't be started again (S9), and ERIE is not started yet (S9)
pub no_par : broken 2 (purchase.Par Erie 80) ≡ Some rule.NoParValue
unfolding purchase_judgement is_sold_out_there is_short_of_cash is_at_limit is_over_six is_second
no_par = refl

pub started_already : broken 2 (purchase.Par Pennsylvania 90) ≡ Some rule.WrongStart
unfolding purchase_judgement is_sold_out_there is_short_of_cash is_at_limit is_over_six is_second
started_already = refl

pub not_started : broken 2 (purchase.Share Erie InitialOffering) ≡ Some rule.WrongStart
unfolding purchase_judgement is_sold_out_there is_short_of_cash is_at_limit is_over_six is_second
not_started = refl

-- CYD may buy the share in the pool, for 90, the price at B7
pub cyd_may_buy : broken 2 (purchase.Share Pennsylvania BankPool) ≡ None
unfolding purchase_judgement is_sold_out_there is_short_of_cash is_at_limit is_over_six is_second
cyd_may_buy = refl

pub cyd_buys :
    after_purchase (game before) (seat_at 2) Pennsylvania BankPool
    ≡ game (before ++ event.Bought Pennsylvania (seat_at 2) 1 BankPool 90 ∷ [])
cyd_buys = refl

-- or start ERIE at 67, with two shares
pub cyd_starts :
    after_start (game before) (seat_at 2) Erie 67
    ≡ game
    (before
    ++ event.Par Erie 67
    ∷ event.Bought Erie (seat_at 2) 2 InitialOffering 134
    ∷ event.President Erie (seat_at 2)
    ∷ [])
cyd_starts = refl
