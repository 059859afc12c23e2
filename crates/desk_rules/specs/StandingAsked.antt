-- The rule that an order above the first COMPANY line of a sheet breaks: an OFFER or a DISCARD. An order that has no place there
-- has a fault, and breaks none.
use Rattle.std.specs.Prelude.{true, List, []}
use Rattle.desk_map_rules.specs.Broken.{broken_of}
use Rattle.events.specs.declared.event.Event.{Event}
use Rattle.events.specs.declared.ruling.Refusal.{Refusal}
use Rattle.events.specs.declared.ruling.Refusal.TheVariants as refusal
use Rattle.order_grammar.specs.declared.order.Offer.{Offer}
use Rattle.order_grammar.specs.declared.play.PlayOrder.{PlayOrder}
use Rattle.order_grammar.specs.declared.play.PlayOrder.TheVariants as play
use Rattle.purchases.specs.Discard.{discard_rules}
use Rattle.purchases.specs.Offer.{offer_rules}
use Rattle.tables.specs.declared.seat.Seat.{Seat}

-- the rule that an offer of a seat breaks, if it breaks it
abbrev pub offer_broken : List Event → Seat → Offer → List Refusal
offer_broken events seat sale = broken_of (λ rule. true) (λ rule. rule) (offer_rules events seat sale)

-- the rule that such an order of a seat breaks, if it breaks it
abbrev pub before_companies_broken : List Event → Seat → PlayOrder → List Refusal
before_companies_broken events seat (play.Offer sale) = offer_broken events seat sale
before_companies_broken events seat (play.Discard company kind) =
    broken_of (λ rule. true) refusal.Train (discard_rules events seat company kind)
before_companies_broken events seat other = []
