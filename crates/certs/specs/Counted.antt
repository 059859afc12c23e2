-- How many certificates of a seat count against the limit. They are its open privates, and its
-- shares of each company whose square lies in no zone, or that has no square. If the seat presides,
-- one less counts, since the president's certificate is two shares.
use Rattle.std.specs.Prelude.{◌≡◌, ℕ, ◌<◌, ◌==◌, Bool, true, false, if◌then◌else◌, List, [], ◌∷◌, Option, Some, None}
use Rattle.std.specs.Prelude.{sum_by, ℤ, pos, ◌+ℤ◌, ◌-ℤ◌}
use Rattle.certs.specs.Holdings.{AreHoldingsOf, president_in, square_in, shares_in}
use Rattle.certs.specs.declared.holdings.Holdings.{Holdings}
use Rattle.events.specs.declared.event.Event.{Event}
use Rattle.events.specs.declared.event.Holder.{Holder}
use Rattle.events.specs.declared.event.Holder.TheVariants as holder
use Rattle.events.specs.declared.event.Shareholder.TheVariants.{Seat as OfSeat}
use Rattle.totals.specs.LookBack.{Game, owner_in, owner_of}
use Rattle.totals.specs.Shares.{president_of, shares_of, square_of}
use Rattle.tables.specs.Chart.{zone_of}
use Rattle.tables.specs.Roster.{companies, privates}
use Rattle.tables.specs.declared.roster.Company.{Company}
use Rattle.tables.specs.declared.roster.Private.{Private}
use Rattle.tables.specs.declared.seat.Seat.{Seat}
use Rattle.tables.specs.declared.squares.Square.{Square}
use Rattle.tables.specs.declared.squares.Zone.TheVariants.{White}

-- 1 for a private that the seat owns
abbrev pub one_owned : Seat → Option Holder → ℕ
one_owned seat (Some (holder.Seat owner)) = if owner.0 == seat.0 then 1 else 0
one_owned seat other = 0

-- how many privates the seat owns
abbrev pub privates_owned : (Private → Option Holder) → Seat → ℕ
privates_owned owner seat = sum_by (λ private. one_owned seat (owner private)) privates

-- the certificates of a company on this square count: it lies in no zone, or there is none
abbrev pub counts_on : Option Square → Bool
counts_on None = true
counts_on (Some square) = elim (zone_of square) [ White ↦ true | _ ↦ false ]

-- the seat presides
abbrev pub presides : Seat → Option Seat → Bool
presides seat None = false
presides seat (Some president) = president.0 == seat.0

-- the certificates of this many shares of a company
abbrev pub certificates_of : Seat → Option Square → Option Seat → ℤ → ℤ
certificates_of seat square president shares =
    if counts_on square then (if presides seat president then shares -ℤ pos 1 else shares) else pos 0

-- the certificates of these companies
abbrev pub certificates_in : (Company → ℤ) → List Company → ℤ
certificates_in certificates [] = pos 0
certificates_in certificates (company ∷ others) = certificates company +ℤ certificates_in certificates others

-- the certificates of a company that a seat has, by the holdings
abbrev pub certificates_by : Holdings → Seat → Company → ℤ
certificates_by holdings seat company =
    certificates_of seat (square_in holdings company) (president_in holdings company)
    (shares_in holdings company (OfSeat seat))

-- how many of a seat's certificates count, by the holdings
abbrev pub counted_in : Holdings → Seat → ℤ
counted_in holdings seat =
    pos (privates_owned (owner_in holdings.owners) seat)
    +ℤ certificates_in (λ company. certificates_by holdings seat company) companies

-- the certificates of a company that a seat has, by the events of a game
abbrev pub certificates_now : List Event → Seat → Company → ℤ
certificates_now events seat company = certificates_of seat (square_of events company) (president_of events company)
    (shares_of events company (OfSeat seat))

-- how many count, by the events of a game
abbrev pub counted_of : List Event → Seat → ℤ
counted_of events seat = pos (privates_owned (owner_of events) seat)
    +ℤ certificates_in (λ company. certificates_now events seat company) companies

-- as many count by the holdings of a game as by its events
abbrev pub CountsByGame : Type 0
CountsByGame =
    (game : Game) (holdings : Holdings) (seat : Seat) → AreHoldingsOf game holdings → seat.0 < 6
    → counted_in holdings seat ≡ counted_of game.events seat
