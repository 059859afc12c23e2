-- Who presides over a company, if another does than a seat. And why an order is wrong by what a seat or a company has: the
-- rule that it breaks, and what there is to say of it.
use Rattle.std.specs.Prelude.{◌==◌, Bool, false, List, Option, Some, None, if◌then◌else◌}
use Rattle.std.specs.Option.{option_or}
use Rattle.desk_base.specs.declared.objection.Objection.{Objection}
use Rattle.desk_base.specs.declared.objection.Objection.TheVariants as objection
use Rattle.events.specs.declared.event.Event.{Event}
use Rattle.events.specs.declared.event.Holder.{Holder}
use Rattle.events.specs.declared.event.Holder.TheVariants as holder
use Rattle.events.specs.declared.ruling.PrivateRule.TheVariants as private_rule
use Rattle.events.specs.declared.ruling.Refusal.{Refusal}
use Rattle.events.specs.declared.ruling.Refusal.TheVariants as refusal
use Rattle.events.specs.declared.ruling.TrainRule.TheVariants as train_rule
use Rattle.order_grammar.specs.declared.order.Offer.{Offer}
use Rattle.order_grammar.specs.declared.order.Offer.TheVariants as offer
use Rattle.order_grammar.specs.declared.order.Order.{Order}
use Rattle.order_grammar.specs.declared.order.Order.TheVariants as order
use Rattle.order_grammar.specs.declared.order.TrainSource.{TrainSource}
use Rattle.order_grammar.specs.declared.order.TrainSource.TheVariants as source
use Rattle.order_grammar.specs.declared.play.PlayOrder.TheVariants as play
use Rattle.purchases.specs.Discard.{has_train, is_president}
use Rattle.tables.specs.declared.rolling_stock.Kind.{Kind}
use Rattle.tables.specs.declared.roster.Company.{Company}
use Rattle.tables.specs.declared.roster.Private.{Private}
use Rattle.tables.specs.declared.seat.Seat.{Seat}
use Rattle.totals.specs.LookBack.{owner_of}
use Rattle.totals.specs.Shares.{president_of}

-- the president that the list says, if it says another than the seat, or none; nothing where it is
-- the seat
abbrev pub other_than : Option Seat → Seat → Option (Option Seat)
other_than president seat = if is_president president seat then None else Some president

-- of a company
abbrev pub other_president : List Event → Company → Seat → Option (Option Seat)
other_president events company seat = other_than (president_of events company) seat

-- this owner is a seat
abbrev pub is_owned_by : Option Holder → Seat → Bool
is_owned_by None seat = false
is_owned_by (Some (holder.Seat its)) seat = its.0 == seat.0
is_owned_by (Some (holder.Company company)) seat = false

-- a private is not the seat's, but this holder's
abbrev pub objection_to_owner : Seat → Private → Option Holder → Option (Refusal × Objection)
objection_to_owner seat private owner =
    if is_owned_by owner seat
    then None
    else Some (refusal.Private private_rule.NoConsent, objection.Owner private owner)

-- this other presides, if another does
abbrev pub objection_by : Refusal → Company → Option (Option Seat) → Option (Refusal × Objection)
objection_by rule company None = None
objection_by rule company (Some president) = Some (rule, objection.President company president)

-- another presides over a company than a seat
abbrev pub objection_by_president : List Event → Refusal → Seat → Company → Option (Refusal × Objection)
objection_by_president events rule seat company = objection_by rule company (other_president events company seat)

-- a company has no train of a kind
abbrev pub objection_to_train : List Event → Refusal → Company → Kind → Option (Refusal × Objection)
objection_to_train events rule company kind =
    if has_train events company kind then None else Some (rule, objection.NoTrain company kind)

-- of a train that is offered: the seat presides over the seller, which has such a train
abbrev pub objection_to_seller : List Event → Seat → Company → Kind → Option (Refusal × Objection)
objection_to_seller events seat seller kind =
    option_or (objection_by_president events (refusal.Train train_rule.NoConsent) seat seller)
    (objection_to_train events (refusal.Train train_rule.NotSellers) seller kind)

-- of a train that is discarded: the seat presides over the company, which has such a train
abbrev pub objection_to_discard : List Event → Seat → Company → Kind → Option (Refusal × Objection)
objection_to_discard events seat company kind =
    option_or (objection_by_president events (refusal.Train train_rule.NoDiscard) seat company)
    (objection_to_train events (refusal.Train train_rule.NoDiscard) company kind)

-- of an offer: the private is the seat's, or the train one that it may offer
abbrev pub objection_to_offer : List Event → Seat → Offer → Option (Refusal × Objection)
objection_to_offer events seat (offer.Private private buyer price) =
    objection_to_owner seat private (owner_of events private)
objection_to_offer events seat (offer.Train kind seller buyer price) = objection_to_seller events seat seller kind

-- of a train that is bought: another company that is to sell it has one
abbrev pub objection_to_source : List Event → Kind → TrainSource → Option (Refusal × Objection)
objection_to_source events kind (source.Company seller price) =
    objection_to_train events (refusal.Train train_rule.NotSellers) seller kind
objection_to_source events kind other = None

-- of an order of a seat
abbrev pub objection_by_view : List Event → Seat → Order → Option (Refusal × Objection)
objection_by_view events seat (order.Play (play.Offer its)) = objection_to_offer events seat its
objection_by_view events seat (order.Play (play.Discard company kind)) = objection_to_discard events seat company kind
objection_by_view events seat (order.Play (play.BuyTrain kind from)) = objection_to_source events kind from
objection_by_view events seat other = None
