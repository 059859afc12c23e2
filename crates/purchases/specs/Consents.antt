-- Which consents there are to a sale to a company. The umpire rules each line by those that the
-- game has. What a company could buy once it has a consent is what the same rules say if everybody
-- who is asked consents.
use Rattle.std.specs.Prelude.{Bool, true, List}
use Rattle.events.specs.declared.event.Event.{Event}
use Rattle.totals.specs.Offers.{has_consent}
use Rattle.purchases.specs.declared.consents.Consents.{Consents}
use Rattle.purchases.specs.declared.consents.Consents.TheVariants.{OfGame, All}
use Rattle.order_grammar.specs.declared.order.Offer.{Offer}
use Rattle.tables.specs.declared.seat.Seat.{Seat}

-- a seat consents to a sale to another, by these consents
abbrev pub agrees_by : Consents → List Event → Seat → Seat → Offer → Bool
agrees_by OfGame events giver taker sale = has_consent events giver taker sale
agrees_by All events giver taker sale = true
