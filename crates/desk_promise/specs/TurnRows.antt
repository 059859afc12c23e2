-- From the rows of a player's turn to the report. Before an opening or a stock round a row tells what
-- becomes of an order as the first line of the player's turn, if nobody else has orders. That is what
-- the report says of the file in which it is the only line: after the passes of the seats before it
-- the line is obeyed, or refused by the rule that the row names. Right below an obeyed line is what it
-- moves, at the price that the row tells.
use Rattle.std.specs.Prelude.{◌≡◌, ℕ, ◌<◌, true, List, None, length, map}
use Rattle.std.specs.List.{AllByRecursion}
use Rattle.desk_promise.specs.LineFile.{IsEnded, IsOfTurns, line_file, turn_of_one}
use Rattle.desk_promise.specs.Moves.{MovesAsTold, MovesInTurn}
use Rattle.desk_promise.specs.Reported.{IsReportedFirst}
use Rattle.events.specs.declared.event.Event.{Event}
use Rattle.events.specs.declared.ruling.Ruling.{Ruling}
use Rattle.foresight.specs.Turn.{IsAtHead}
use Rattle.foresight.specs.declared.turn_ahead.TurnAhead.{TurnAhead}
use Rattle.moves.specs.OpeningRows.{opening_orders, opening_row}
use Rattle.moves.specs.RowLaws.{rule_told}
use Rattle.moves.specs.StockRows.{stock_orders, stock_row}
use Rattle.moves.specs.declared.row.Row.{Row}
use Rattle.order_grammar.specs.Spells.{is_round_of_line}
use Rattle.order_grammar.specs.declared.order.Order.TheVariants.{Play}
use Rattle.report.specs.Report.{IsReport}
use Rattle.rounds.specs.Play.{Between, Plays}
use Rattle.rounds.specs.declared.following.Next.TheVariants as next
use Rattle.sheets.specs.File.{IsAccepted, players_of}
use Rattle.tables.specs.declared.round.Round.{Round}
use Rattle.tables.specs.declared.round.Round.TheVariants.{Opening, Stock}
use Rattle.tables.specs.declared.seat.Seat.{Seat}
use Rattle.totals.specs.LookBack.{Game}
use Rattle.turns.specs.Ruling.{judged}

-- what becomes of a row's line, as the row tells: it is obeyed, or refused by the rule that is named
abbrev pub ruling_told : Row → Ruling
ruling_told row = judged None (Play row.order) (rule_told row.answer)

-- the file in which a row's order is the only line of a player's turn
abbrev pub row_file : List ℕ → Round → Seat → Row → List ℕ
row_file file round seat row = line_file file round seat (turn_of_one row.order)

-- in the report of that file, as line 2 of the sheet, below TURN, its line is ruled as the row tells, in
-- the round after this game, and right below it is what its order moves at the price that the row tells
pub record IsLineReported (file text : List ℕ) (game : Game) (round : Round) (seat : Seat) (row : Row) : Type 0 where
  pub moved : List Event
  pub as_told : MovesAsTold row.answer (MovesInTurn seat row.order) moved
  pub reported : IsReportedFirst (row_file file round seat row) text game round seat 2 (ruling_told row) moved

-- a row is as the report of that file says, if the file is not refused
abbrev pub IsAsReported : List ℕ → Game → Round → Seat → Row → Type 0
IsAsReported file game round seat row =
    IsOfTurns row.order → IsAccepted (row_file file round seat row) → (text : List ℕ)
    → IsReport (row_file file round seat row) text → IsLineReported file text game round seat row

-- the rows of a stock round that is awaited are as the reports say
abbrev pub StockRowsAreReported : Type 0
StockRowsAreReported =
    (file : List ℕ) (last : Between) (set : ℕ) (seat : Seat) (turn : TurnAhead)
    → IsAccepted file → IsEnded file → Plays file last → last.next ≡ next.Round (Stock set)
    → is_round_of_line (Stock set) ≡ true → seat.0 < length (players_of file)
    → IsAtHead (Stock set) seat last.game turn
    → AllByRecursion (IsAsReported file last.game (Stock set) seat)
    (map (stock_row turn.history seat turn.bought) (stock_orders turn.history.events seat))

-- so are those of an opening that is awaited
abbrev pub OpeningRowsAreReported : Type 0
OpeningRowsAreReported =
    (file : List ℕ) (last : Between) (number : ℕ) (seat : Seat) (turn : TurnAhead)
    → IsAccepted file → IsEnded file → Plays file last → last.next ≡ next.Round (Opening number)
    → is_round_of_line (Opening number) ≡ true → seat.0 < length (players_of file)
    → IsAtHead (Opening number) seat last.game turn
    → AllByRecursion (IsAsReported file last.game (Opening number) seat)
    (map (opening_row turn.history seat turn.used) (opening_orders turn.history.events))
