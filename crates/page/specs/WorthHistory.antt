-- What the history of a page shows of a game: what each player is worth, and what each share costs.
use Rattle.std.specs.Prelude.{ℕ, ◌+◌, ℤ, pos, nat_lt, if◌then◌else◌, List, [], ◌∷◌, ◌++◌, Option, Some, None, map, option_map, take}
use Rattle.std.specs.List.{fold}
use Rattle.desk_cells.specs.Leaders.{six_seats}
use Rattle.events.specs.Event.{round_begun_by}
use Rattle.events.specs.declared.event.Event.{Event}
use Rattle.page_charts.specs.declared.history_part.Entry.{Entry}
use Rattle.report.specs.EndWorth.{worth_of}
use Rattle.tables.specs.Chart.{price_of}
use Rattle.tables.specs.Roster.{companies}
use Rattle.tables.specs.declared.round.Round.{Round}
use Rattle.tables.specs.declared.roster.Company.{Company}
use Rattle.tables.specs.declared.seat.Seat.{Seat}
use Rattle.totals.specs.LookBack.{Game}
use Rattle.totals.specs.Shares.{square_of}
use Rattle.totals.specs.Trains.{phase_of}

-- what the player of a seat is worth; nothing for an empty seat
abbrev pub worth_if : Game → Seat → ℤ
worth_if game seat = if nat_lt seat.0 game.seats then worth_of game seat else pos 0

-- the price of a company's share, if its token is on the chart
abbrev pub share_price : List Event → Company → Option ℕ
share_price events company = option_map price_of (square_of events company)

-- what each player is worth, by their seats
unfoldable pub worths_in : Game → List ℤ
worths_in game = map (worth_if game) six_seats

-- the prices of the companies' shares, in the order of the roster
unfoldable pub prices_in : List Event → List (Option ℕ)
prices_in events = map (share_price events) companies

-- the figures of a game at the end of a round
abbrev pub entry_of : Game → Round → Entry
entry_of game round =
    record { round = round; worths = worths_in game; prices = prices_in game.events; phase = phase_of game.events }

-- the figures of a game, if a round has begun
abbrev pub noted : Game → Option Round → List Entry
noted game None = []
noted game (Some round) = entry_of game round ∷ []

-- the game of this many events
abbrev pub game_after : ℕ → List Event → ℕ → Game
game_after seats events passed = record { seats = seats; events = take passed events }

-- how many events there are, the round that began last, and the figures after each round that has ended
pub record Noted : Type 0 where
  pub passed : ℕ
  pub begun : Option Round
  pub entries : List Entry

-- where a round begins, if one does, the round before it has ended
abbrev pub noted_at : ℕ → List Event → Noted → Option Round → Noted
noted_at seats events so_far None = record so_far { passed = so_far.passed + 1 }
noted_at seats events so_far (Some round) =
    record {
      passed = so_far.passed + 1;
      begun = Some round;
      entries = so_far.entries ++ noted (game_after seats events so_far.passed) so_far.begun;
    }

-- after one more event
abbrev pub noted_then : ℕ → List Event → Noted → Event → Noted
noted_then seats events so_far event = noted_at seats events so_far (round_begun_by event)

-- before the first event
abbrev pub none_noted : Noted
none_noted = record { passed = 0; begun = None; entries = [] }

-- with the figures at the end of the game
abbrev pub all_noted : Game → Noted → List Entry
all_noted game so_far = so_far.entries ++ noted game so_far.begun

-- the figures of a game after each of its rounds, in order
unfoldable pub entries_of : Game → List Entry
entries_of game = all_noted game (fold (noted_then game.seats game.events) none_noted game.events)
