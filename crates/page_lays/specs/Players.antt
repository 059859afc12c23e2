-- What each player may do in a round that comes, apart from their companies: in an operating round the standing lines; in an
-- opening or a stock round also the orders at the start of their first turn, in the order of turns,
-- if those before them pass.
use Rattle.std.specs.Prelude.{◌≡◌, ℕ, zero, suc, false, List, [], ◌∷◌, ◌++◌, None, map}
use Rattle.events.specs.declared.event.Event.TheVariants as event
use Rattle.foresight.specs.FirstTurn.{after_passes, seat_after}
use Rattle.moves.specs.OpeningRows.{opening_orders, opening_row}
use Rattle.moves.specs.StandingRows.{standing_rows}
use Rattle.moves.specs.StockRows.{stock_orders, stock_row}
use Rattle.moves.specs.declared.row.Row.{Row}
use Rattle.page_lays.specs.declared.players.Player.{Player}
use Rattle.tables.specs.Seat.{seat_at}
use Rattle.tables.specs.declared.round.Round.{Round}
use Rattle.tables.specs.declared.round.Round.TheVariants.{Opening}
use Rattle.tables.specs.declared.seat.Seat.{Seat}
use Rattle.totals.specs.LookBack.{Game, priority_of}

-- the orders of a seat's turn at its head: of an opening, or else of a stock round
abbrev pub head_rows : Game → Round → Seat → List Row
head_rows game (Opening number) seat = map (opening_row game seat false) (opening_orders game.events)
head_rows game other seat = map (stock_row game seat None) (stock_orders game.events seat)

-- what is told of a player at the start of their turn: their standing lines, and the orders of the turn
pub record IsPlayerAt (round : Round) (game : Game) (seat : Seat) (player : Player) : Type 0 where
  pub its : player.seat ≡ seat
  pub standing : player.standing.items ≡ standing_rows game.events seat round
  pub turn : player.turn.items ≡ head_rows game round seat

-- the round that comes, once this many seats have passed, from the holder of priority to the left
abbrev pub passed_ahead : Round → Game → ℕ → Game
passed_ahead round old count =
    record {
      seats = old.seats;
      events = after_passes old.seats (priority_of old.seats old.events) (old.events ++ event.Round round ∷ []) count;
    }

-- the players of so many turns, each before whom the others have passed
abbrev pub ArePlayersIn : Round → Game → ℕ → List Player → Type 0
ArePlayersIn round old zero players = players ≡ []
ArePlayersIn round old (suc count) players =
    (before : List Player) × (last : Player) × ArePlayersIn round old count before
    × IsPlayerAt round (passed_ahead round old count) (seat_after old.seats (priority_of old.seats old.events) count) last
    × (players ≡ before ++ last ∷ [])

-- what is told of a player before an operating round: their standing lines
pub record IsStandingAt (round : Round) (game : Game) (seat : Seat) (player : Player) : Type 0 where
  pub its : player.seat ≡ seat
  pub standing : player.standing.items ≡ standing_rows game.events seat round
  pub none : player.turn.items ≡ []

-- so many players, in the order of the PLAYERS line
abbrev pub AreStandingIn : Round → Game → ℕ → List Player → Type 0
AreStandingIn round game zero players = players ≡ []
AreStandingIn round game (suc count) players =
    (before : List Player) × (last : Player) × AreStandingIn round game count before
    × IsStandingAt round game (seat_at count) last × (players ≡ before ++ last ∷ [])
