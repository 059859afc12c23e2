-- Example for the chapter `exchange`: MH is exchanged before NYC is started.
-- ANN, at seat 0, owns MH. BOB does not.
use Rattle.std.proofs.Common.{◌≡◌, refl, pos, true, List, [], ◌∷◌, ◌++◌, Some, None}
use Rattle.events.specs.declared.event.Event.{Event}
use Rattle.events.specs.declared.event.Event.TheVariants as event
use Rattle.events.specs.declared.event.Shareholder.TheVariants as place
use Rattle.events.specs.declared.ruling.StockRule.TheVariants as rule
use Rattle.order_grammar.specs.declared.order.ShareSource.TheVariants.{InitialOffering}
use Rattle.stock_round.specs.Exchange.{after_exchange, exchange_judgement}
use Rattle.certs.specs.Purchase.{is_over_six}
use Rattle.tables.specs.Seat.{seat_at}
use Rattle.tables.specs.declared.roster.Company.TheVariants.{NewYorkCentral}
use Rattle.tables.specs.declared.roster.Private.TheVariants.{MohawkHudson}
use Rattle.totals.specs.LookBack.{Game, is_closed}
use Rattle.totals.specs.Shares.{shares_of}

abbrev before : List Event
before = event.Sold MohawkHudson (seat_at 0) 110 ∷ []

abbrev game : List Event → Game
game events = record { seats = 3; events = events }

pub ann_may : exchange_judgement (game before) (seat_at 0) ≡ None
unfolding is_over_six
ann_may = refl

pub bob_may_not : exchange_judgement (game before) (seat_at 1) ≡ Some rule.NoExchange
bob_may_not = refl

pub ann_exchanges :
    after_exchange (game before) (seat_at 0) ≡ game (before ++ event.Exchanged (seat_at 0) InitialOffering ∷ [])
ann_exchanges = refl

-- then MH is closed, and she has a share of NYC
pub mh_is_closed : is_closed (after_exchange (game before) (seat_at 0)).events MohawkHudson ≡ true
mh_is_closed = refl

pub ann_has_nyc :
    shares_of (after_exchange (game before) (seat_at 0)).events NewYorkCentral (place.Seat (seat_at 0)) ≡ pos 1
ann_has_nyc = refl
