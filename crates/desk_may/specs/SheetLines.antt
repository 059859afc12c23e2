-- The rows of a player as the lines of a sheet: the standing lines, TURN, and below it the orders. Each standing line is
-- judged alone as the first of the round that comes, each order as the next line of the player's turn.
use Rattle.std.specs.Prelude.{ℕ, List, ◌++◌, codes, map}
use Rattle.desk_may.specs.RowLines.{row_lines}
use Rattle.foresight.specs.declared.turn_ahead.TurnAhead.{TurnAhead}
use Rattle.moves.specs.OpeningRows.{opening_orders, opening_row}
use Rattle.moves.specs.StandingRows.{standing_rows}
use Rattle.moves.specs.StockRows.{stock_orders, stock_row}
use Rattle.moves.specs.declared.row.Row.{Row}
use Rattle.tables.specs.declared.round.Round.{Round}
use Rattle.tables.specs.declared.round.Round.TheVariants.{Opening}
use Rattle.tables.specs.declared.seat.Seat.{Seat}
use Rattle.totals.specs.LookBack.{Game}

-- the standing lines of a seat for a round, in a game before it
abbrev pub standing_lines : List ℕ → Game → Round → Seat → List ℕ
standing_lines file game round seat = row_lines file (standing_rows game.events seat round)

-- the rows of a seat's turn: of an opening, or otherwise of a stock round
abbrev pub turn_rows : TurnAhead → Round → Seat → List Row
turn_rows turn (Opening number) seat =
    map (opening_row turn.history seat turn.used) (opening_orders turn.history.events)
turn_rows turn other seat =
    map (stock_row turn.history seat turn.bought) (stock_orders turn.history.events seat)

-- the lines of a seat's first turn
abbrev pub turn_lines : List ℕ → TurnAhead → Round → Seat → List ℕ
turn_lines file turn round seat = codes "TURN\n" ++ row_lines file (turn_rows turn round seat)
