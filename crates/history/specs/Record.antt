-- Events that follow from the list alone. BROKEN follows the payment that leaves the bank with 0 or
-- less, once in a game. The privates pay their revenues in roster order. LEFT says how many lines
-- of a seat's sheet were not reached, if there are any.
use Rattle.std.specs.Prelude.{ℕ, ◌==◌, Bool, ◌&&◌, not, if◌then◌else◌, List, [], ◌∷◌, ◌++◌, Option, Some, None, pos}
use lib.Signed.{le_z}
use Rattle.events.specs.declared.event.Event.{Event}
use Rattle.events.specs.declared.event.Event.TheVariants as event
use Rattle.events.specs.declared.event.Holder.{Holder}
use Rattle.events.specs.declared.event.Party.TheVariants as party
use Rattle.totals.specs.LookBack.{Game, cash_of, broken_in, owner_of}
use Rattle.tables.specs.Roster.{privates, revenue_of}
use Rattle.tables.specs.declared.roster.Private.{Private}
use Rattle.tables.specs.declared.seat.Seat.{Seat}

-- the bank's cash is 0 or less, and nothing has said so yet
abbrev pub breaks : ℕ → List Event → Bool
breaks seats events = le_z (cash_of seats events party.Bank) (pos 0) && not (broken_in events)

-- with BROKEN after an event that breaks the bank
abbrev pub with_broken : ℕ → List Event → List Event
with_broken seats events = if breaks seats events then events ++ event.Broken ∷ [] else events

-- a game with a record that the bank is broken, where it is
abbrev pub broken_recorded : Game → Game
broken_recorded game = record { seats = game.seats; events = with_broken game.seats game.events }

-- after the revenue of a private to its owner, if it has one
abbrev pub paid_to_owner : ℕ → List Event → Private → Option Holder → List Event
paid_to_owner seats events private None = events
paid_to_owner seats events private (Some owner) =
    with_broken seats (events ++ event.Revenue private owner (revenue_of private) ∷ [])

-- after the revenues of some privates, in order
abbrev pub after_revenues : ℕ → List Event → List Private → List Event
after_revenues seats events [] = events
after_revenues seats events (private ∷ others) =
    after_revenues seats (paid_to_owner seats events private (owner_of events private)) others

-- a game in which a private has paid its owner, if it has one
abbrev pub revenue_recorded : Private → Game → Game
revenue_recorded private game =
    record { seats = game.seats; events = paid_to_owner game.seats game.events private (owner_of game.events private) }

-- a game in which each private has paid its owner, in roster order
abbrev pub revenues_recorded : Game → Game
revenues_recorded game = record { seats = game.seats; events = after_revenues game.seats game.events privates }

-- a LEFT event for a count more than 0, before others
abbrev pub with_left : Seat → ℕ → List Event → List Event
with_left seat count events = if count == 0 then events else event.Left seat count ∷ events

-- a game with a record of this many lines left, if there are any
abbrev pub left_recorded : Seat → ℕ → Game → Game
left_recorded seat count game = record { seats = game.seats; events = game.events ++ with_left seat count [] }
