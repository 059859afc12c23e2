-- What a list says once one more event is at its end: what that event says, or else what the list
-- said before.
use Rattle.std.specs.Prelude.{◌≡◌, ℕ, ◌+◌, List, [], ◌∷◌, ◌++◌, Option, pos, ◌-ℤ◌, ◌+ℤ◌}
use Rattle.std.specs.Option.{option_or}
use Rattle.events.specs.Event.{IsQuiet, payment_of}
use Rattle.events.specs.declared.event.Event.{Event}
use Rattle.events.specs.declared.event.Party.{Party}
use Rattle.events.specs.declared.event.Shareholder.{Shareholder}
use Rattle.events.specs.declared.event.TrainPlace.{TrainPlace}
use Rattle.totals.specs.LookBack.{cash_of, cheapest_of, is_sold, last_said, owner_of, paid_by, paid_to, sv_price_of}
use Rattle.totals.specs.Bids.{bid_of, bids_of, bids_on as the_bids_on}
use Rattle.totals.specs.Operating.{lays_of, rulings_in_round, rulings_then, tokens_of}
use Rattle.totals.specs.Shares.{is_floated, par_of, president_of, shares_of, square_of}
use Rattle.totals.specs.Trains.{trains_at}
use Rattle.tables.specs.declared.rolling_stock.Kind.{Kind}
use Rattle.tables.specs.declared.roster.Company.{Company}
use Rattle.tables.specs.declared.roster.Private.{Private}
use Rattle.tables.specs.declared.seat.Seat.{Seat}

-- what was said last: what the event at the end says, or else what was said before it
abbrev pub LastWordIsLast : Type 0 → Type 0
LastWordIsLast A =
    (says : Event → Option A) (events : List Event) (event : Event) →
    last_said says (events ++ event ∷ []) ≡ option_or (says event) (last_said says events)

-- a payment moves cash from the one that pays to the one that is paid
abbrev pub CashMoves : Type 0
CashMoves =
    (seats : ℕ) (events : List Event) (event : Event) (party : Party) →
    cash_of seats (events ++ event ∷ []) party ≡ (cash_of seats events party +ℤ pos
    (paid_to party (payment_of event))) -ℤ pos (paid_by party (payment_of event))

-- a list says the same as before of what parties have and own, and of SV's price
pub record SaysTheSame (before after : List Event) : Type 0 where
  pub cash : (seats : ℕ) (party : Party) → cash_of seats after party ≡ cash_of seats before party
  pub owner : (private : Private) → owner_of after private ≡ owner_of before private
  pub sold : (private : Private) → is_sold after private ≡ is_sold before private
  pub cheapest : cheapest_of after ≡ cheapest_of before
  pub bid : (private : Private) (seat : Seat) → bid_of after private seat ≡ bid_of before private seat
  pub bids : (seat : Seat) → bids_of after seat ≡ bids_of before seat
  pub bids_on : (seats : ℕ) (private : Private) → the_bids_on seats after private ≡ the_bids_on seats before private
  pub shares : (company : Company) (place : Shareholder)
      → shares_of after company place ≡ shares_of before company place
  pub par : (company : Company) → par_of after company ≡ par_of before company
  pub square : (company : Company) → square_of after company ≡ square_of before company
  pub president : (company : Company) → president_of after company ≡ president_of before company
  pub floated : (company : Company) → is_floated after company ≡ is_floated before company
  pub sv_price : sv_price_of after ≡ sv_price_of before
  pub trains : (place : TrainPlace) (kind : Kind) → trains_at after place kind ≡ trains_at before place kind

-- a quiet event changes none of it
abbrev pub QuietSaysTheSame : Type 0
QuietSaysTheSame =
    (events : List Event) (event : Event) → IsQuiet event → SaysTheSame events (events ++ event ∷ [])

-- a tile that the event at the end lays is the last
abbrev pub LaysGrow : Type 0
LaysGrow = (events : List Event) (event : Event)
    → lays_of (events ++ event ∷ []) ≡ lays_of events ++ lays_of (event ∷ [])

-- a token that the event at the end places is the last
abbrev pub TokensGrow : Type 0
TokensGrow =
    (events : List Event) (event : Event) → tokens_of (events ++ event ∷ [])
    ≡ tokens_of events ++ tokens_of (event ∷ [])

-- the event at the end begins the count of a seat's rulings again, or adds one, or leaves it
abbrev pub RulingsAreCounted : Type 0
RulingsAreCounted =
    (events : List Event) (event : Event) (seat : Seat) →
    rulings_in_round (events ++ event ∷ []) seat ≡ rulings_then seat (rulings_in_round events seat) event
