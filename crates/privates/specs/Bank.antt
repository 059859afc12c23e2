-- The privates of the bank: what each costs, which is the cheapest unsold, and whether a seat can
-- pay. A seat can spend what its standing bids on other privates leave of its cash.
use Rattle.std.specs.Prelude.{◌≡◌, ℕ, Bool, false, List, Option, Some, None, pos, ◌≤ℤ◌}
use Rattle.std.specs.Int.Signed.{lt_z}
use Rattle.events.specs.declared.event.Event.{Event}
use Rattle.totals.specs.Bids.{free_for}
use Rattle.totals.specs.LookBack.{cheapest_of, is_sold, sv_price_of}
use Rattle.tables.specs.Roster.{face_of, same_private}
use Rattle.tables.specs.declared.roster.Private.{Private}
use Rattle.tables.specs.declared.roster.Private.TheVariants.{SchuylkillValley}
use Rattle.tables.specs.declared.seat.Seat.{Seat}

-- the bank's price of a private: SV's price may have fallen
abbrev pub price_of_private : List Event → Private → ℕ
price_of_private events SchuylkillValley = sv_price_of events
price_of_private events private = face_of private

-- there is such a private, and it is this one
abbrev pub is_the : Private → Option Private → Bool
is_the private None = false
is_the private (Some other) = same_private private other

-- the private is the cheapest unsold one
abbrev pub is_cheapest : List Event → Private → Bool
is_cheapest events private = is_the private (cheapest_of events)

-- a sum is over what a seat can spend on a private
abbrev pub is_short : ℕ → List Event → Seat → Private → ℕ → Bool
is_short seats events seat private sum = lt_z (free_for seats events seat private) (pos sum)

-- the private can be sold to the seat at this price, whatever its turn has done before
pub record MayPay (seats : ℕ) (events : List Event) (seat : Seat) (private : Private) (price : ℕ) : Type 0 where
  pub unsold : is_sold events private ≡ false
  pub free : pos price ≤ℤ free_for seats events seat private
