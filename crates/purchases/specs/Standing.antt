-- The standing lines of an operating round's sheets, those before the first head. They are ruled
-- seat by seat, in order, each by its condition and then by its rule. DISCARD has a rule of its
-- own. An OFFER of a train is refused if the seat is not the seller's president, or at price 0. An
-- OFFER of a private is refused if the seat does not own it. No other OFFER is refused, and no
-- other order has a place there.
use Rattle.std.specs.Prelude.{ℕ, Bool, true, false, List, Option, None, option_map}
use Rattle.std.specs.List.{range_with_len}
use Rattle.events.specs.declared.event.Event.{Event}
use Rattle.events.specs.declared.ruling.Refusal.{Refusal}
use Rattle.events.specs.declared.ruling.Refusal.TheVariants as refusal
use Rattle.events.specs.declared.ruling.Ruling.{Ruling}
use Rattle.purchases.specs.Discard.{discard_judgement}
use Rattle.purchases.specs.Offer.{offer_judgement}
use Rattle.order_grammar.specs.declared.order.Order.{Order}
use Rattle.order_grammar.specs.declared.order.Order.TheVariants as order
use Rattle.order_grammar.specs.declared.play.PlayOrder.TheVariants as play
use Rattle.sheets.specs.Part.{Numbered}
use Rattle.sheets.specs.Taken.{after_all_before}
use Rattle.tables.specs.declared.round.Round.{Round}
use Rattle.tables.specs.declared.seat.Seat.{Seat}
use Rattle.turns.specs.Ruling.{line_ruling, recorded}

-- the orders that may be before the first head
abbrev pub has_place_before_companies : Order → Bool
has_place_before_companies (order.Play (play.Discard company kind)) = true
has_place_before_companies (order.Play (play.Offer sale)) = true
has_place_before_companies other = false

-- the rule that a standing order of a seat breaks, if it breaks one
abbrev pub operating_standing_judgement : List Event → Seat → Order → Option Refusal
operating_standing_judgement events seat (order.Play (play.Discard company kind)) =
    option_map refusal.Train (discard_judgement events seat company kind)
operating_standing_judgement events seat (order.Play (play.Offer sale)) = offer_judgement events seat sale
operating_standing_judgement events seat other = None

-- what becomes of a standing line of a seat
abbrev pub operating_standing_ruling : List Event → Seat → Numbered → Ruling
operating_standing_ruling events seat line =
    line_ruling has_place_before_companies (operating_standing_judgement events seat) events line

-- after a standing line of a seat
abbrev pub after_operating_standing_line : Seat → List Event → Numbered → List Event
after_operating_standing_line seat events line =
    recorded seat line.number (operating_standing_ruling events seat line) events

-- after the standing lines of all sheets for a round, seat by seat
abbrev pub after_all_standing_lines : ℕ → List ℕ → Round → List Event → List Event
after_all_standing_lines seats file round events =
    after_all_before after_operating_standing_line file round events (range_with_len 0 seats)
