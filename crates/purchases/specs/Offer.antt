-- OFFER: a seat consents to a sale in this round, by a standing line. An offer of a train is
-- refused if the seat is not the president of the company that sells, or at price 0. An offer of a
-- private is refused if the seat does not own it. No other is refused: what a sale needs besides
-- consent is checked at the sale.
use Rattle.std.specs.Prelude.{◌==◌, not, ◌||◌, List, [], ◌∷◌, Option}
use Rattle.events.specs.declared.event.Event.{Event}
use Rattle.events.specs.declared.ruling.PrivateRule.TheVariants as private_rule
use Rattle.events.specs.declared.ruling.Refusal.{Refusal}
use Rattle.events.specs.declared.ruling.Refusal.TheVariants as refusal
use Rattle.events.specs.declared.ruling.TrainRule.TheVariants as train_rule
use Rattle.totals.specs.LookBack.{is_owner, owner_of}
use Rattle.totals.specs.Shares.{president_of}
use Rattle.purchases.specs.Discard.{is_president}
use Rattle.order_grammar.specs.declared.order.Offer.{Offer}
use Rattle.order_grammar.specs.declared.order.Offer.TheVariants as offer
use Rattle.tables.specs.Rules.{Rule, first_broken}
use Rattle.tables.specs.declared.seat.Seat.{Seat}

-- the rule of an offer of a seat
abbrev pub offer_rules : List Event → Seat → Offer → List (Rule Refusal)
offer_rules events seat (offer.Train kind seller buyer price) =
    record {
      code = refusal.Train train_rule.NoConsent;
      broken =
          price == 0 || not (is_president (president_of events seller) seat);
    }
    ∷ []
offer_rules events seat (offer.Private private buyer price) =
    record { code = refusal.Private private_rule.NoConsent; broken = not (is_owner seat (owner_of events private)) }
    ∷ []

-- the rule that an offer of a seat breaks, if it breaks it
abbrev pub offer_judgement : List Event → Seat → Offer → Option Refusal
offer_judgement events seat sale = first_broken (offer_rules events seat sale)
