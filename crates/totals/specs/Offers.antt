-- Offers. A seat consents to a sale by an OFFER line. It names the thing, who sells it if that is a
-- company, the buyer and the price, and holds for the round in which it was obeyed. A sale has
-- consent if the seat that takes the thing is the one that gives it, or the giver has offered
-- exactly that sale in this round. An offer can be used any number of times.
use Rattle.std.specs.Prelude.{◌≡◌, ◌==◌, Bool, false, ◌&&◌, ◌||◌, List, Option, Some, None, is_some}
use Rattle.std.specs.List.{list_any}
use Rattle.events.specs.Event.{obeyed_of}
use Rattle.events.specs.Offers.{Offer, offered_in, same_offer}
use Rattle.events.specs.Orders.{said_by}
use Rattle.events.specs.declared.event.Event.{Event}
use Rattle.totals.specs.LookBack.{in_round, now_said}
use Rattle.tables.specs.declared.seat.Seat.{Seat}

-- an offer is a seat's offer of this sale
abbrev pub is_that_offer : Seat → Offer → Seat × Offer → Bool
is_that_offer seat sale offer = offer.0.0 == seat.0 && same_offer offer.1 sale

-- what was said is a seat's offer of this sale, if an offer was said
abbrev pub says_offer : Seat → Offer → Option (Seat × Offer) → Bool
says_offer seat sale None = false
says_offer seat sale (Some offer) = is_that_offer seat sale offer

-- a seat's offer of this sale is among these
abbrev pub is_among : Seat → Offer → List (Seat × Offer) → Bool
is_among seat sale offers = list_any (is_that_offer seat sale) offers

-- a seat has offered a sale, by an order that was obeyed since the last round began
abbrev pub has_offered : List Event → Seat → Offer → Bool
has_offered events seat sale =
    is_some (now_said (in_round (λ event. said_by seat (offered_in sale) (obeyed_of event))) events)

-- a sale has the consent of the seat that gives, for a sale to this seat
abbrev pub has_consent : List Event → Seat → Seat → Offer → Bool
has_consent events giver taker sale = giver.0 == taker.0 || has_offered events giver sale

-- these are the offers of the round that began last
abbrev pub AreOffersOf : List (Seat × Offer) → List Event → Type 0
AreOffersOf offers events = (seat : Seat) (sale : Offer) → is_among seat sale offers ≡ has_offered events seat sale
