-- Standing bids. A seat's newest bid on a private replaces its older one there, and the sale of the
-- private ends the bids on it. A seat's standing bids tie its cash.
use Rattle.std.specs.Prelude.{◌≡◌, ℕ, ◌<◌, ◌==◌, ◌&&◌, if◌then◌else◌, List, [], ◌∷◌, Option, Some, None, sum_by, pos}
use Rattle.std.specs.Prelude.{◌-ℤ◌, ℤ, max, slice_index_or, unwrap_or}
use Rattle.std.specs.List.{flat_map}
use Rattle.events.specs.Event.{bidding_of, party_at}
use Rattle.events.specs.declared.event.Bid.{Bid}
use Rattle.events.specs.declared.event.Bidding.{Bidding}
use Rattle.events.specs.declared.event.Bidding.TheVariants.{Made, Ended}
use Rattle.events.specs.declared.event.Event.{Event}
use Rattle.totals.specs.LookBack.{cash_of, now_said}
use Rattle.tables.specs.Roster.{privates, same_private}
use Rattle.tables.specs.Seat.{all_seats, seat_at}
use Rattle.tables.specs.declared.roster.Private.{Private}
use Rattle.tables.specs.declared.seat.Seat.{Seat}

-- what is said of a seat's bid on a private
abbrev pub bid_said : Private → Seat → Option Bidding → Option (Option ℕ)
bid_said private seat None = None
bid_said private seat (Some (Made other bid)) =
    if same_private other private && bid.seat.0 == seat.0 then Some (Some bid.amount) else None
bid_said private seat (Some (Ended other)) = if same_private other private then Some None else None

-- a seat's standing bid on a private
abbrev pub bid_of : List Event → Private → Seat → Option ℕ
bid_of events private seat = now_said (λ event. bid_said private seat (bidding_of event)) events

-- how much a bid on a private is that is made here, if one is
abbrev pub bid_made : Private → Option Bidding → Option ℕ
bid_made private (Some (Made other bid)) = if same_private other private then Some bid.amount else None
bid_made private other = None

-- the greater of a bid and an earlier one, if there are any
abbrev pub greater_bid : Option ℕ → Option ℕ → Option ℕ
greater_bid None earlier = earlier
greater_bid (Some later) None = Some later
greater_bid (Some later) (Some earlier) = Some (max earlier later)

-- the greatest of a bid and those that are made on a private in a list
abbrev pub greatest_bid_from : Private → Option ℕ → List Event → Option ℕ
greatest_bid_from private bid [] = bid
greatest_bid_from private bid (event ∷ events) =
    greatest_bid_from private (greater_bid (bid_made private (bidding_of event)) bid) events

-- the greatest bid ever made on a private, whoever made it and whether it stands or not
abbrev pub greatest_bid_of : List Event → Private → Option ℕ
greatest_bid_of events private = greatest_bid_from private None events

-- a seat with its bid, if it has one
abbrev pub as_bid : Seat → Option ℕ → List Bid
as_bid seat None = []
as_bid seat (Some amount) = record { seat = seat; amount = amount } ∷ []

-- the standing bids on a private, in the order of the seats
abbrev pub bids_on : ℕ → List Event → Private → List Bid
bids_on seats events private = flat_map (λ seat. as_bid seat (bid_of events private seat)) (all_seats seats)

-- the table has the standing bid of each of six seats on a private
abbrev pub AreStanding : List Event → Private → List (Option ℕ) → Type 0
AreStanding events private standing =
    (number : ℕ) → number < 6 → slice_index_or standing number None ≡ bid_of events private (seat_at number)

-- a table after a word on bids has what that says of the bids on a private, and otherwise what it
-- had
abbrev pub AppliesBidOn : Private → Option Bidding → List (Option ℕ) → List (Option ℕ) → Type 0
AppliesBidOn private bidding old new =
    (number : ℕ) → number < 6 →
    slice_index_or new number None ≡ unwrap_or (bid_said private (seat_at number) bidding)
    (slice_index_or old number None)

-- what a seat's standing bid on a private ties
abbrev pub tied_on : List Event → Seat → Private → ℕ
tied_on events seat private = unwrap_or (bid_of events private seat) 0

-- the sum of a seat's standing bids
abbrev pub bids_of : List Event → Seat → ℕ
bids_of events seat = sum_by (tied_on events seat) privates

-- what a seat's standing bid on a private ties, if it is not this private
abbrev pub tied_elsewhere : List Event → Seat → Private → Private → ℕ
tied_elsewhere events seat this other = if same_private other this then 0 else tied_on events seat other

-- the sum of a seat's standing bids on all privates but one
abbrev pub bids_elsewhere_of : List Event → Seat → Private → ℕ
bids_elsewhere_of events seat private = sum_by (tied_elsewhere events seat private) privates

-- what a seat can spend on a private: its cash minus its standing bids on the others
abbrev pub free_for : ℕ → List Event → Seat → Private → ℤ
free_for seats events seat private = cash_of seats events (party_at seat) -ℤ pos (bids_elsewhere_of events seat private)

-- a seat's cash minus its standing bids
abbrev pub free_cash_of : ℕ → List Event → Seat → ℤ
free_cash_of seats events seat = cash_of seats events (party_at seat) -ℤ pos (bids_of events seat)
