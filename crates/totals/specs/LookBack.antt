-- What a list of events, oldest first, says when one looks back over it. There are two ways: what
-- the last event about a thing says, and a start with all that came in minus all that went out.
-- Where it says so is a place in the list.
use Rattle.std.specs.Prelude.{ℕ, ◌<◌, ◌+◌, ◌==◌, Bool, true, false, if◌then◌else◌, List, [], ◌∷◌, ◌++◌, Option, Some}
use Rattle.std.specs.Prelude.{None, sum_by, pos, neg_ℤ, ◌-ℤ◌, ◌≤ℤ◌, ℤ, ◌^◌, is_none, length, is_some, ◌&&◌, unwrap_or}
use Rattle.std.specs.Prelude.{slice_index_or}
use Rattle.std.specs.List.{list_any}
use Rattle.std.specs.Option.{option_or, option_flatten, option_map}
use Rattle.events.specs.Event.{actor_of, ownership_of, payment_of, round_begun_by, sv_price_set, says_bankrupt}
use Rattle.events.specs.Event.{says_broken}
use Rattle.events.specs.declared.event.Event.{Event}
use Rattle.events.specs.declared.event.Holder.{Holder}
use Rattle.events.specs.declared.event.Holder.TheVariants as holder
use Rattle.events.specs.declared.event.Ownership.{Ownership}
use Rattle.events.specs.declared.event.Party.{Party}
use Rattle.events.specs.declared.event.Party.TheVariants as party
use Rattle.events.specs.declared.event.Payment.{Payment}
use Rattle.totals.specs.declared.owners.Owners.{Owners}
use Rattle.tables.specs.Roster.{start_money_of, bank_start_of, face_of, index_of_private, privates, same_company}
use Rattle.tables.specs.Roster.{same_private}
use Rattle.tables.specs.Seat.{left_of, seat_at}
use Rattle.tables.specs.declared.roster.Private.{Private}
use Rattle.tables.specs.declared.roster.Private.TheVariants.{SchuylkillValley}
use Rattle.tables.specs.declared.round.Round.{Round}
use Rattle.tables.specs.declared.seat.Seat.{Seat}

-- a game: the number of its seats, and its events
pub record Game : Type 0 where
  pub seats : ℕ
  pub events : List Event

-- a game with one more event
abbrev pub with_event : Game → Event → Game
with_event game event = record { seats = game.seats; events = game.events ++ event ∷ [] }

-- a game of the same seats with this list
abbrev pub with_events : Game → List Event → Game
with_events game events = record { seats = game.seats; events = events }

-- what the last event that says something of this kind says
abbrev pub last_said : {A : Type 0} → (Event → Option A) → List Event → Option A
last_said says [] = None
last_said says (event ∷ events) = option_or (last_said says events) (says event)

-- what holds now, if the last event that speaks of it says that it is this, or that it is nothing
abbrev pub now_said : {A : Type 0} → (Event → Option (Option A)) → List Event → Option A
now_said says events = option_flatten (last_said says events)

-- what is said holds within a round: the event that begins a round says that nothing does
abbrev pub in_round : {A : Type 0} → (Event → Option A) → Event → Option (Option A)
in_round says event = if is_some (round_begun_by event) then Some None else option_map Some (says event)

-- the place in a list of the last event that says something of this kind, if the first has this
-- place
abbrev pub last_place_from : {A : Type 0} → (Event → Option A) → ℕ → List Event → Option ℕ
last_place_from says place [] = None
last_place_from says place (event ∷ events) =
    option_or (last_place_from says (place + 1) events) (if is_some (says event) then Some place else None)

-- a start, with all that came in, minus all that went out
abbrev pub balance : ℕ → (Event → ℕ) → (Event → ℕ) → List Event → ℤ
balance start brings takes events = pos (start + sum_by brings events) -ℤ pos (sum_by takes events)

-- a sum that is moderate, as every balance is that a list in memory makes
pub record IsModerate (sum : ℤ) : Type 0 where
  pub not_under : neg_ℤ (pos (2 ^ 100)) ≤ℤ sum
  pub not_over : sum ≤ℤ pos (2 ^ 100)

-- the events are few enough to be counted in a memory
abbrev pub FitsMemory : List Event → Type 0
FitsMemory events = length events < 2 ^ 63

-- two holders are the same
abbrev pub same_holder : Holder → Holder → Bool
same_holder (holder.Seat a) (holder.Seat b) = a.0 == b.0
same_holder (holder.Company a) (holder.Company b) = same_company a b
same_holder (holder.Seat a) (holder.Company b) = false
same_holder (holder.Company a) (holder.Seat b) = false

-- the seat is this owner
abbrev pub is_owner : Seat → Option Holder → Bool
is_owner seat None = false
is_owner seat (Some (holder.Seat owner)) = owner.0 == seat.0
is_owner seat (Some (holder.Company company)) = false

-- two parties are the same
abbrev pub same_party : Party → Party → Bool
same_party party.Bank party.Bank = true
same_party (party.Holder a) (party.Holder b) = same_holder a b
same_party party.Bank (party.Holder b) = false
same_party (party.Holder a) party.Bank = false

-- what a payment adds to the cash of a party
abbrev pub paid_to : Party → Option Payment → ℕ
paid_to party None = 0
paid_to party (Some payment) = if same_party payment.to party then payment.amount else 0

-- what a payment takes from the cash of a party
abbrev pub paid_by : Party → Option Payment → ℕ
paid_by party None = 0
paid_by party (Some payment) = if same_party payment.from party then payment.amount else 0

-- what a party begins with: a company has nothing
abbrev pub start_of : ℕ → Party → ℕ
start_of seats party.Bank = bank_start_of seats
start_of seats (party.Holder (holder.Seat seat)) = start_money_of seats
start_of seats (party.Holder (holder.Company company)) = 0

-- a party's cash: its start money, plus all that came in, minus all that went out
abbrev pub cash_of : ℕ → List Event → Party → ℤ
cash_of seats events party = balance (start_of seats party) (λ event. paid_to party (payment_of event))
    (λ event. paid_by party (payment_of event)) events

-- what is said of this private's owner
abbrev pub owner_said : Private → Option Ownership → Option (Option Holder)
owner_said private None = None
owner_said private (Some ownership) = if same_private ownership.private private then Some ownership.owner else None

-- who owns a private; nobody while it is unsold, and once it is closed
abbrev pub owner_of : List Event → Private → Option Holder
owner_of events private = now_said (λ event. owner_said private (ownership_of event)) events

-- a private has been sold: some event has spoken of its owner
abbrev pub is_sold : List Event → Private → Bool
is_sold events private = is_some (last_said (λ event. owner_said private (ownership_of event)) events)

-- a private has been closed: it is sold, and nobody owns it
abbrev pub is_closed : List Event → Private → Bool
is_closed events private = is_sold events private && is_none (owner_of events private)

-- the price of SV, at first its face
abbrev pub sv_price_of : List Event → ℕ
sv_price_of events = unwrap_or (last_said sv_price_set events) (face_of SchuylkillValley)

-- the bank is broken
abbrev pub broken_in : List Event → Bool
broken_in events = list_any says_broken events

-- a president is bankrupt: the game is over
abbrev pub bankrupt_in : List Event → Bool
bankrupt_in events = list_any says_bankrupt events

-- the seat at the left of the last that acted; at first seat 0
abbrev pub left_of_actor : ℕ → Option Seat → Seat
left_of_actor seats None = seat_at 0
left_of_actor seats (Some actor) = left_of seats actor

-- the holder of priority
abbrev pub priority_of : ℕ → List Event → Seat
priority_of seats events = left_of_actor seats (last_said actor_of events)

-- the round that began last
abbrev pub round_of : List Event → Option Round
round_of events = last_said round_begun_by events

-- the first of these privates that is unsold
abbrev pub first_unsold : (Private → Bool) → List Private → Option Private
first_unsold sold [] = None
first_unsold sold (private ∷ others) = if sold private then first_unsold sold others else Some private

-- the cheapest private that is unsold
abbrev pub cheapest_of : List Event → Option Private
cheapest_of events = first_unsold (is_sold events) privates

-- the owner of a private, by what was said last of each
abbrev pub owner_in : Owners → Private → Option Holder
owner_in owners private = option_flatten (slice_index_or owners.said (index_of_private private) None)

-- a private has been sold, by what was said last of each
abbrev pub is_sold_in : Owners → Private → Bool
is_sold_in owners private = is_some (slice_index_or owners.said (index_of_private private) None)

-- the cheapest private that is unsold, by what was said last of each
abbrev pub cheapest_in : Owners → Option Private
cheapest_in owners = first_unsold (is_sold_in owners) privates
