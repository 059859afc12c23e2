-- Example for the chapter `buying-trains`: who may buy which train.
-- The bank has sold five 2s to NYC and CO. PRR has 200, ANN, at seat 0, presides over it, and
-- nobody has made an offer.
use Rattle.std.proofs.Common.{◌≡◌, refl, List, [], ◌∷◌, ◌++◌, Option, Some, None}
use Rattle.events.specs.declared.event.Event.{Event}
use Rattle.events.specs.declared.event.Event.TheVariants as event
use Rattle.events.specs.declared.event.TrainSeller.TheVariants as seller
use Rattle.events.specs.declared.ruling.TrainRule.{TrainRule}
use Rattle.events.specs.declared.ruling.TrainRule.TheVariants as rule
use Rattle.order_grammar.specs.declared.order.TrainSource.{TrainSource}
use Rattle.order_grammar.specs.declared.order.TrainSource.TheVariants as source
use Rattle.purchases.specs.Train.{after_train, purchase_of, train_judgement}
use Rattle.tables.specs.Seat.{seat_at}
use Rattle.tables.specs.declared.rolling_stock.Kind.{Kind}
use Rattle.tables.specs.declared.rolling_stock.Kind.TheVariants.{Two, Three, Diesel}
use Rattle.tables.specs.declared.roster.Company.TheVariants.{Pennsylvania, NewYorkCentral, ChesapeakeOhio}
use Rattle.totals.specs.LookBack.{Game}

abbrev before : List Event
before =
    event.Floats Pennsylvania 200
    ∷ event.President Pennsylvania (seat_at 0)
    ∷ event.President NewYorkCentral (seat_at 1)
    ∷ event.Train NewYorkCentral Two seller.Bank 80
    ∷ event.Train NewYorkCentral Two seller.Bank 80
    ∷ event.Train NewYorkCentral Two seller.Bank 80
    ∷ event.Train NewYorkCentral Two seller.Bank 80
    ∷ event.Train ChesapeakeOhio Two seller.Bank 80
    ∷ []

abbrev game : List Event → Game
game events = record { seats = 3; events = events }

-- the first rule that PRR breaks by a purchase
abbrev broken : Kind → TrainSource → Option TrainRule
broken kind from = train_judgement (game before) Pennsylvania (purchase_of kind from)

-- the last 2 is on sale, and no 3 before it is sold (T1); no D before a 6 (T1)
pub a_two : broken Two source.Bank ≡ None
a_two = refl

pub a_three : broken Three source.Bank ≡ Some rule.NotOnSale
a_three = refl

pub a_diesel : broken Diesel source.Bank ≡ Some rule.NotOnSale
a_diesel = refl

-- NYC's president has not consented to a sale (T4), and CO has no 3 (T4 comes first)
pub no_consent : broken Two (source.Company NewYorkCentral 50) ≡ Some rule.NoConsent
no_consent = refl

-- NYC has four trains, as many as it may have in phase 2 (T2)
pub nyc_is_full : train_judgement (game before) NewYorkCentral (purchase_of Two source.Bank) ≡ Some rule.TrainLimit
nyc_is_full = refl

-- PRR buys the last 2, and then the first 3, which begins phase 3
abbrev with_a_two : List Event
with_a_two = before ++ event.Train Pennsylvania Two seller.Bank 80 ∷ []

pub prr_buys_the_two : after_train (game before) Pennsylvania (purchase_of Two source.Bank) ≡ game with_a_two
prr_buys_the_two = refl

pub prr_buys_a_three :
    after_train (game with_a_two) Pennsylvania (purchase_of Three source.Bank)
    ≡ game (with_a_two ++ event.Train Pennsylvania Three seller.Bank 180 ∷ event.Phase Three ∷ [])
prr_buys_a_three = refl
