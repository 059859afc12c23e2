-- Who presides over a company. The president stays unless some seat has strictly more shares. Then
-- it is the seat with most, among equals the first to the president's left.
use Rattle.std.specs.Prelude.{◌≡◌, ◌⊎◌, ℕ, ◌-◌, ◌<◌, ◌≤◌, if◌then◌else◌, List, [], ◌∷◌, Option, Some, ℤ, ◌≤ℤ◌, ◌<ℤ◌}
use Rattle.std.specs.Prelude.{option_map}
use lib.Signed.{lt_z}
use Rattle.certs.specs.Holdings.{AreHoldingsOf, president_in, shares_in}
use Rattle.certs.specs.declared.holdings.Holdings.{Holdings}
use Rattle.events.specs.declared.event.Event.{Event}
use Rattle.events.specs.declared.event.Shareholder.TheVariants.{Seat as OfSeat}
use Rattle.totals.specs.LookBack.{Game}
use Rattle.totals.specs.Shares.{president_of, shares_of}
use Rattle.tables.specs.Seat.{left_of, seats_from}
use Rattle.tables.specs.declared.roster.Company.{Company}
use Rattle.tables.specs.declared.seat.Seat.{Seat}

-- the better of two seats: the second if it has strictly more shares
abbrev pub better_of : (Seat → ℤ) → Seat → Seat → Seat
better_of shares best seat = if lt_z (shares best) (shares seat) then seat else best

-- the seat with most shares among a seat and others in order, the first of those that have as many
abbrev pub with_most : (Seat → ℤ) → Seat → List Seat → Seat
with_most shares best [] = best
with_most shares best (seat ∷ others) = with_most shares (better_of shares best seat) others

-- the other seats of a table, to the left
abbrev pub others_from : ℕ → Seat → List Seat
others_from seats seat = seats_from seats (seats - 1) (left_of seats seat)

-- who presides now by these shares, at a table of this many seats, if this seat presided
abbrev pub successor : (Seat → ℤ) → ℕ → Seat → Seat
successor shares seats old = with_most shares old (others_from seats old)

-- the shares of a company that a seat has, by the holdings
abbrev pub seat_shares : Holdings → Company → Seat → ℤ
seat_shares holdings company seat = shares_in holdings company (OfSeat seat)

-- who presides over a company now, if somebody did, by the holdings
abbrev pub presiding_in : Holdings → Company → Option Seat
presiding_in holdings company =
    option_map (successor (seat_shares holdings company) holdings.seats) (president_in holdings company)

-- the shares of a company that a seat has, by the events of a game
abbrev pub seat_shares_of : List Event → Company → Seat → ℤ
seat_shares_of events company seat = shares_of events company (OfSeat seat)

-- who presides over a company now, by the events of a game, if this seat presided
abbrev pub successor_of : ℕ → List Event → Company → Seat → Seat
successor_of seats events company old = successor (seat_shares_of events company) seats old

-- who presides over a company now, if somebody did, by the events of a game
abbrev pub presiding_of : ℕ → List Event → Company → Option Seat
presiding_of seats events company = option_map (successor_of seats events company) (president_of events company)

-- each of these seats has at most this many shares
abbrev pub HaveAtMost : (Seat → ℤ) → ℤ → List Seat → Type 0
HaveAtMost shares most [] = Unit {0}
HaveAtMost shares most (seat ∷ others) = (shares seat ≤ℤ most) × HaveAtMost shares most others

-- a seat is the first with most among these in order: each before it has fewer, and none after it
-- more
abbrev pub IsFirstWithMost : (Seat → ℤ) → Seat → List Seat → Type 0
IsFirstWithMost shares first [] = ⊥
IsFirstWithMost shares first (seat ∷ others) =
    ((seat ≡ first) × HaveAtMost shares (shares first) others)
    ⊎ ((shares seat <ℤ shares first) × IsFirstWithMost shares first others)

-- the seat that presides is the first with most, beginning with the one that presided
abbrev pub FirstWithMostPresides : Type 0
FirstWithMostPresides =
    (shares : Seat → ℤ) (old : Seat) (others : List Seat)
    → IsFirstWithMost shares (with_most shares old others) (old ∷ others)

-- the president as it was last said, if there is one, is at the table
abbrev pub PresidentIsSeated : Game → Company → Type 0
PresidentIsSeated game company = (seat : Seat) → president_of game.events company ≡ Some seat → seat.0 < game.seats

-- the same seat presides by the holdings of a game as by its events
abbrev pub PresidesByGame : Type 0
PresidesByGame =
    (game :
    Game) (holdings : Holdings) (company : Company) → AreHoldingsOf game holdings → game.seats ≤ 6
    → PresidentIsSeated game company → presiding_in holdings company ≡ presiding_of game.seats game.events company
