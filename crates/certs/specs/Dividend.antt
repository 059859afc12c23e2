-- What a company pays out. The bank pays each seat a tenth of the revenue for each share of the
-- company that the seat holds, seat by seat. Then it pays the company as much for each of those in
-- the bank pool; those of the initial offering are paid nothing. The token of the company on the
-- chart moves right.
use Rattle.std.specs.Prelude.{ℕ, ◌==◌, ◌*◌, ◌/◌, if◌then◌else◌, List, [], ◌∷◌, pos, ◌-ℤ◌, ◌≤ℤ◌}
use Rattle.events.specs.declared.event.Event.{Event}
use Rattle.events.specs.declared.event.Event.TheVariants as event
use Rattle.events.specs.declared.event.Holder.{Holder}
use Rattle.events.specs.declared.event.Holder.TheVariants as holder
use Rattle.events.specs.declared.event.Party.TheVariants as party
use Rattle.events.specs.declared.event.Shareholder.{Shareholder}
use Rattle.events.specs.declared.event.Shareholder.TheVariants as place
use Rattle.totals.specs.LookBack.{Game, cash_of, with_event}
use Rattle.totals.specs.Shares.{shares_of}
use Rattle.history.specs.Sound.{IsSound}
use Rattle.history.specs.Record.{broken_recorded}
use Rattle.totals.specs.Trains.{at_least_zero}
use Rattle.market.specs.Moves.{right_of}
use Rattle.tables.specs.Seat.{all_seats}
use Rattle.tables.specs.declared.roster.Company.{Company}
use Rattle.market.specs.Token.{token_moved}
use Rattle.tables.specs.declared.seat.Seat.{Seat}

-- what each share of a company is paid of a revenue
abbrev pub per_share : ℕ → ℕ
per_share revenue = revenue / 10

-- what the shares of a company at a place are paid
abbrev pub dividend_of : List Event → Company → Shareholder → ℕ → ℕ
dividend_of events company place revenue = at_least_zero (shares_of events company place) * per_share revenue

-- after a dividend of the bank to a holder, if it is more than 0; perhaps that breaks the bank
abbrev pub dividend_paid_to : Company → Holder → ℕ → Game → Game
dividend_paid_to company holder amount game =
    if amount == 0 then game else broken_recorded (with_event game (event.Dividend company holder amount))

-- after the dividend for the shares at a place goes to a holder
abbrev pub paid_for : Company → Holder → Shareholder → ℕ → Game → Game
paid_for company holder place revenue game =
    dividend_paid_to company holder (dividend_of game.events company place revenue) game

-- after some seats are paid, in order
abbrev pub paid_to_seats : Company → ℕ → Game → List Seat → Game
paid_to_seats company revenue game [] = game
paid_to_seats company revenue game (seat ∷ others) =
    paid_to_seats company revenue (paid_for company (holder.Seat seat) (place.Seat seat) revenue game) others

-- after all are paid
abbrev pub all_paid : Company → ℕ → Game → Game
all_paid company revenue game = paid_for company (holder.Company company) place.BankPool revenue
    (paid_to_seats company revenue game (all_seats game.seats))

-- after the company has paid
abbrev pub paid_out : Game → Company → ℕ → Game
paid_out game company revenue = token_moved right_of (all_paid company revenue game) company

-- in a sound list the bank pays at most the revenue
abbrev pub NoMoreIsPaid : Type 0
NoMoreIsPaid =
    (game : Game) (company : Company) (revenue : ℕ) →
    IsSound game → (cash_of game.seats game.events party.Bank -ℤ pos revenue) ≤ℤ cash_of game.seats
    (all_paid company revenue game).events party.Bank
