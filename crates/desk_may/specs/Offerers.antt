-- Who may offer a train. An OFFER is a standing line, which is decided as the round begins: it is obeyed if its player
-- presides over the seller then, and refused if they become its president during the round.
use Rattle.std.specs.Prelude.{Bool, true, if◌then◌else◌, List, map, Option, None, slice_get, unwrap_or}
use Rattle.events.specs.declared.event.Event.{Event}
use Rattle.events.specs.declared.ruling.Refusal.TheVariants as refusal
use Rattle.events.specs.declared.ruling.TrainRule.TheVariants.{NoConsent}
use Rattle.moves.specs.declared.row.Answer.{Answer}
use Rattle.moves.specs.declared.row.Answer.TheVariants.{Obeyed, WithConsent, Refused}
use Rattle.moves.specs.declared.row.Row.{Row}
use Rattle.order_grammar.specs.declared.order.Offer.{Offer}
use Rattle.order_grammar.specs.declared.order.Offer.TheVariants as offer
use Rattle.purchases.specs.Discard.{is_president}
use Rattle.tables.specs.Roster.{companies, index_of_company}
use Rattle.tables.specs.declared.roster.Company.{Company}
use Rattle.tables.specs.declared.seat.Seat.{Seat}
use Rattle.totals.specs.Shares.{president_of}

-- who presides over each company, in roster order
abbrev pub presidents_of : List Event → List (Option Seat)
presidents_of events = map (president_of events) companies

-- a seat presided over a company, by these presidents
abbrev pub led_it : List (Option Seat) → Company → Seat → Bool
led_it presidents company seat = is_president (unwrap_or (slice_get presidents (index_of_company company)) None) seat

-- a seat may make an offer: of a train, if it presided over the seller
abbrev pub may_offer : List (Option Seat) → Seat → Offer → Bool
may_offer presidents giver (offer.Train kind seller buyer price) = led_it presidents seller giver
may_offer presidents giver (offer.Private private buyer price) = true

-- what becomes of an order whose consent may come too late to be obeyed
abbrev pub as_offered : List (Option Seat) → Answer → Answer
as_offered presidents (Obeyed price) = Obeyed price
as_offered presidents (Refused rule) = Refused rule
as_offered presidents (WithConsent price giver sale) =
    if may_offer presidents giver sale then WithConsent price giver sale else Refused (refusal.Train NoConsent)

-- its row
abbrev pub offered_row : List (Option Seat) → Row → Row
offered_row presidents row = record { order = row.order; answer = as_offered presidents row.answer }
