-- The sale that an OFFER line offers. Two sales are the same if they are of one thing, from one
-- seller, to one buyer at one price.
use Rattle.std.specs.Prelude.{ℕ, ◌==◌, Bool, false, ◌&&◌, if◌then◌else◌, Option, Some, None}
use Rattle.events.specs.Event.{obeyed_says, order_obeyed}
use Rattle.events.specs.declared.ruling.Ruling.{Ruling}
pub use Rattle.order_grammar.specs.declared.order.Offer.{Offer}
use Rattle.order_grammar.specs.declared.order.Offer.TheVariants as offer
use Rattle.order_grammar.specs.declared.order.Order.{Order}
use Rattle.order_grammar.specs.declared.order.Order.TheVariants as order
use Rattle.order_grammar.specs.declared.play.PlayOrder.TheVariants as play
use Rattle.tables.specs.Roster.{same_company, same_private}
use Rattle.tables.specs.Train.{same_kind}
use Rattle.tables.specs.declared.roster.Company.{Company}

-- two sales are to one buyer at one price
abbrev pub same_terms : Company → ℕ → Company → ℕ → Bool
same_terms buyer price to sum = same_company buyer to && price == sum

-- two sales are the same: of one thing, from one seller, to one buyer at one price
abbrev pub same_offer : Offer → Offer → Bool
same_offer (offer.Private private buyer price) (offer.Private of to sum) =
    same_private private of && same_terms buyer price to sum
same_offer (offer.Train kind seller buyer price) (offer.Train of from to sum) =
    same_kind kind of && (same_company seller from && same_terms buyer price to sum)
same_offer sale other = false

-- a sale, if an order offers it
abbrev pub offered_in : Offer → Order → Option Offer
offered_in sale (order.Play (play.Offer other)) = if same_offer other sale then Some other else None
offered_in sale other = None

-- a sale, if the order that a ruling obeys offers it
abbrev pub offer_obeyed : Offer → Ruling → Option Offer
offer_obeyed sale ruling = obeyed_says (offered_in sale) (order_obeyed ruling)

-- a sale, if it is the one that an order offers
abbrev pub offer_said : Offer → Option Offer → Option Offer
offer_said sale None = None
offer_said sale (Some other) = if same_offer other sale then Some other else None
