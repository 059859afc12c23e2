-- The offer of another player that an order lacks.
use Rattle.std.specs.Prelude.{◌==◌, Option, Some, None, if◌then◌else◌}
use Rattle.desk_trials.specs.declared.consent.Consent.{Consent}
use Rattle.order_grammar.specs.declared.order.Offer.{Offer}
use Rattle.tables.specs.declared.seat.Seat.{Seat}

-- the offer of one player to another, if they are two
abbrev pub consent_of : Seat → Seat → Offer → Option Consent
consent_of giver taker offer = if giver.0 == taker.0 then None else Some (record { seat = giver; offer = offer })
