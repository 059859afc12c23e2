-- Example for the chapter `consent`: an offer, and what it is not.
-- BOB, at seat 1, has offered in OR2.1 that a 2 goes from NYC to PRR for 30. ANN, at seat 0,
-- presides over PRR.
use Rattle.std.proofs.Common.{◌≡◌, refl, ℕ, true, false, List, [], ◌∷◌, ◌++◌, None}
use Rattle.events.specs.declared.event.Event.{Event}
use Rattle.events.specs.declared.event.Event.TheVariants as event
use Rattle.events.specs.declared.ruling.Ruling.TheVariants.{Obeyed}
use Rattle.order_grammar.specs.declared.order.Offer.{Offer}
use Rattle.order_grammar.specs.declared.order.Offer.TheVariants as offer
use Rattle.order_grammar.specs.declared.order.Order.TheVariants as order
use Rattle.order_grammar.specs.declared.play.PlayOrder.TheVariants as play
use Rattle.tables.specs.Seat.{seat_at}
use Rattle.tables.specs.declared.rolling_stock.Kind.TheVariants.{Two}
use Rattle.tables.specs.declared.roster.Company.TheVariants.{Pennsylvania, NewYorkCentral}
use Rattle.tables.specs.declared.round.Round.TheVariants.{Operating}
use Rattle.totals.specs.Offers.{has_consent}

abbrev two_for : ℕ → Offer
two_for price = offer.Train Two NewYorkCentral Pennsylvania price

abbrev happened : List Event
happened = event.Round (Operating 2 1) ∷ event.Ruled (seat_at 1) 1 (Obeyed None (order.Play (play.Offer (two_for 30)))) ∷ []

-- it is consent to exactly this sale
pub for_30 : has_consent happened (seat_at 1) (seat_at 0) (two_for 30) ≡ true
for_30 = refl

pub for_29 : has_consent happened (seat_at 1) (seat_at 0) (two_for 29) ≡ false
for_29 = refl

-- who deals with themselves needs none
pub with_himself : has_consent happened (seat_at 1) (seat_at 1) (two_for 29) ≡ true
with_himself = refl

-- in the next round it holds no more
pub next_round :
    has_consent (happened ++ event.Round (Operating 2 2) ∷ []) (seat_at 1) (seat_at 0) (two_for 30) ≡ false
next_round = refl
