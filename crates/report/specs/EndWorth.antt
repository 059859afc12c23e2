-- What each player is worth at the end of a game: cash, shares at the market price, and privates at
-- their face value. Shares of a company without a market price are worth nothing.
use Rattle.std.specs.Prelude.{ℕ, ◌+◌, ◌*◌, if◌then◌else◌, List, [], ◌∷◌, codes, ℤ, pos, ◌+ℤ◌, sum_by}
use Rattle.certs.specs.Purchase.{market_price_of}
use Rattle.events.specs.Event.{party_at}
use Rattle.events.specs.declared.event.Event.{Event}
use Rattle.events.specs.declared.event.Shareholder.TheVariants.{Seat as OfSeat}
use Rattle.totals.specs.LookBack.{Game, cash_of, is_owner, owner_of}
use Rattle.totals.specs.Shares.{shares_of}
use Rattle.totals.specs.Trains.{at_least_zero}
use Rattle.report.specs.Line.{line_of, name_of}
use Rattle.std.specs.Fmt.{signed_decimal}
use Rattle.std.specs.List.{flat_map, range_with_len}
use Rattle.tables.specs.Roster.{companies, face_of, privates}
use Rattle.tables.specs.declared.roster.Company.{Company}
use Rattle.tables.specs.declared.roster.Private.{Private}
use Rattle.tables.specs.declared.seat.Seat.{Seat}

-- what the shares of a company that a seat has are worth
abbrev pub worth_of_shares : List Event → Seat → Company → ℕ
worth_of_shares events seat company = at_least_zero (shares_of events company (OfSeat seat)) * market_price_of events company

-- what a private is worth to a seat: nothing if another owns it
abbrev pub worth_of_private : List Event → Seat → Private → ℕ
worth_of_private events seat private = if is_owner seat (owner_of events private) then face_of private else 0

-- what all shares that a seat has are worth
abbrev pub worth_of_all_shares : List Event → Seat → ℕ
worth_of_all_shares events seat = sum_by (worth_of_shares events seat) companies

-- what all privates that a seat owns are worth
abbrev pub worth_of_privates : List Event → Seat → ℕ
worth_of_privates events seat = sum_by (worth_of_private events seat) privates

-- what a seat is worth
abbrev pub worth_of : Game → Seat → ℤ
worth_of game seat = cash_of game.seats game.events (party_at seat) +ℤ pos
    (worth_of_all_shares game.events seat + worth_of_privates game.events seat)

-- the line of what a player is worth
abbrev pub worth_line : List ℕ → Game → Seat → List ℕ
worth_line file game seat = line_of (codes "WORTH") (name_of file seat ∷ signed_decimal (worth_of game seat) ∷ [])

-- the lines of all players, in the order of their seats
unfoldable pub worth_lines : List ℕ → Game → List ℕ
worth_lines file game = flat_map (λ seat. worth_line file game (record { 0 = seat })) (range_with_len 0 game.seats)
