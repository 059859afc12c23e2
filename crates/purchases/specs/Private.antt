-- PRIVATE: the purchase of a private by a company, from the player who owns it. The company owns
-- the private from then on. It needs, in this order:
--
-- - phase 3;
-- - a price from half of the face value to twice that;
-- - the consent of the player, as for a train;
-- - a private that is not BOP, which is never sold to a company;
-- - the cash.
use Rattle.std.specs.Prelude.{ℕ, ◌+◌, Bool, false, not, ◌||◌, nat_lt, List, [], ◌∷◌, Option, Some, pos}
use Rattle.std.specs.Int.Signed.{lt_z}
use Rattle.events.specs.Event.{party_of_company}
use Rattle.events.specs.declared.event.Event.{Event}
use Rattle.events.specs.declared.event.Event.TheVariants as event
use Rattle.events.specs.declared.event.Holder.{Holder}
use Rattle.events.specs.declared.event.Holder.TheVariants as holder
use Rattle.events.specs.declared.ruling.PrivateRule.{PrivateRule}
use Rattle.events.specs.declared.ruling.PrivateRule.TheVariants.{TooEarly, WrongPrice, NoConsent, NeverSold}
use Rattle.events.specs.declared.ruling.PrivateRule.TheVariants.{CashTooSmall}
use Rattle.totals.specs.LookBack.{Game, cash_of, owner_of, with_event}
use Rattle.totals.specs.Shares.{president_of}
use Rattle.totals.specs.Trains.{phase_of}
use Rattle.purchases.specs.Consents.{agrees_by}
use Rattle.purchases.specs.declared.consents.Consents.{Consents}
use Rattle.purchases.specs.declared.consents.Consents.TheVariants.{OfGame}
use Rattle.order_grammar.specs.declared.order.Offer.{Offer}
use Rattle.order_grammar.specs.declared.order.Offer.TheVariants as offer
use Rattle.tables.specs.Roster.{face_of, same_private}
use Rattle.tables.specs.Rules.{Rule, first_broken}
use Rattle.tables.specs.Train.{index_of_kind}
use Rattle.tables.specs.declared.rolling_stock.Kind.TheVariants.{Three}
use Rattle.tables.specs.declared.roster.Company.{Company}
use Rattle.tables.specs.declared.roster.Private.{Private}
use Rattle.tables.specs.declared.roster.Private.TheVariants.{BaltimoreOhio}
use Rattle.tables.specs.declared.seat.Seat.{Seat}

-- phase 3 has not begun
abbrev pub is_too_early : List Event → Bool
is_too_early events = nat_lt (index_of_kind (phase_of events)) (index_of_kind Three)

-- the price is less than half of the face value, or more than twice that
abbrev pub is_wrong_price : Private → ℕ → Bool
is_wrong_price private price =
    nat_lt (price + price) (face_of private) || nat_lt (face_of private + face_of private) price

-- by these consents this owner is a player who consents to the sale to this seat
abbrev pub owner_agrees_by : Consents → List Event → Option Holder → Option Seat → Offer → Bool
owner_agrees_by consents events (Some (holder.Seat giver)) (Some taker) sale =
    agrees_by consents events giver taker sale
owner_agrees_by consents events owner taker sale = false

-- this owner is a player who consents to the sale to this seat in the game
abbrev pub owner_agrees : List Event → Option Holder → Option Seat → Offer → Bool
owner_agrees events owner taker sale = owner_agrees_by OfGame events owner taker sale

-- by these consents a player owns the private, and consents to the sale
abbrev pub is_given_by : Consents → List Event → Company → Private → ℕ → Bool
is_given_by consents events company private price =
    owner_agrees_by consents events (owner_of events private) (president_of events company)
    (offer.Private private company price)

-- the private has an owner who consents to the sale
abbrev pub is_given : List Event → Company → Private → ℕ → Bool
is_given events company private price = is_given_by OfGame events company private price

-- the company has less than the price
abbrev pub private_costs_too_much : Game → Company → ℕ → Bool
private_costs_too_much game company price = lt_z (cash_of game.seats game.events (party_of_company company)) (pos price)

-- the rules of the purchase of a private by a company, by these consents
abbrev pub private_rules_by : Consents → Game → Company → Private → ℕ → List (Rule PrivateRule)
private_rules_by consents game company private price = record { code = TooEarly; broken = is_too_early game.events }
    ∷ record { code = WrongPrice; broken = is_wrong_price private price }
    ∷ record { code = NoConsent; broken = not (is_given_by consents game.events company private price) }
    ∷ record { code = NeverSold; broken = same_private private BaltimoreOhio }
    ∷ record { code = CashTooSmall; broken = private_costs_too_much game company price } ∷ []

-- the rules of the purchase of a private by a company
abbrev pub private_rules : Game → Company → Private → ℕ → List (Rule PrivateRule)
private_rules game company private price = private_rules_by OfGame game company private price

-- the first rule that it breaks, by these consents
abbrev pub private_judgement_by : Consents → Game → Company → Private → ℕ → Option PrivateRule
private_judgement_by consents game company private price =
    first_broken (private_rules_by consents game company private price)

-- the first rule that it breaks
abbrev pub private_judgement : Game → Company → Private → ℕ → Option PrivateRule
private_judgement game company private price = private_judgement_by OfGame game company private price

-- after this owner has sold a private to a company; only a player sells one
abbrev pub sold_by : Game → Company → Private → ℕ → Option Holder → Game
sold_by game company private price (Some (holder.Seat seller)) =
    with_event game (event.PrivateBought private company seller price)
sold_by game company private price other = game

-- after its owner has sold a private to a company
abbrev pub private_bought : Game → Company → Private → ℕ → Game
private_bought game company private price = sold_by game company private price (owner_of game.events private)
