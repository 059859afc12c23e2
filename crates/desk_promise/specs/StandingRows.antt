-- From the rows of a player's standing lines to the report. A standing line is told as it is judged alone,
-- by the game before the round. The report of the file in which it is the only line of all sheets for the
-- round has it right below ROUND, obeyed, or refused by the rule that the row names.
use Rattle.std.specs.Prelude.{◌≡◌, ℕ, ◌<◌, true, List, [], ◌∷◌, length}
use Rattle.std.specs.List.{AllByRecursion}
use Rattle.desk_promise.specs.LineFile.{IsEnded, IsStandingIn, line_file, standing_of_one}
use Rattle.desk_promise.specs.Reported.{IsReportedNext}
use Rattle.desk_promise.specs.TurnRows.{ruling_told}
use Rattle.events.specs.declared.event.Event.TheVariants as event
use Rattle.moves.specs.StandingRows.{standing_rows}
use Rattle.moves.specs.declared.row.Row.{Row}
use Rattle.order_grammar.specs.Spells.{is_round_of_line}
use Rattle.order_grammar.specs.declared.play.PlayOrder.{PlayOrder}
use Rattle.report.specs.Report.{IsReport}
use Rattle.rounds.specs.Play.{Between, Plays}
use Rattle.rounds.specs.declared.following.Next.TheVariants as next
use Rattle.sheets.specs.File.{IsAccepted, players_of}
use Rattle.tables.specs.declared.round.Round.{Round}
use Rattle.tables.specs.declared.seat.Seat.{Seat}
use Rattle.totals.specs.LookBack.{Game, with_event}

-- the file in which an order is the only standing line of a player, and the only line of all sheets
abbrev pub standing_file : List ℕ → Round → Seat → PlayOrder → List ℕ
standing_file file round seat order = line_file file round seat (standing_of_one order)

-- a row is as the report of that file says, if the file is not refused: as line 1 of the sheet its line
-- is ruled as the row tells, right below ROUND
abbrev pub IsStandingReported : List ℕ → Game → Round → Seat → Row → Type 0
IsStandingReported file before round seat row =
    IsStandingIn round row.order → IsAccepted (standing_file file round seat row.order) → (text : List ℕ)
    → IsReport (standing_file file round seat row.order) text
    → IsReportedNext (standing_file file round seat row.order) text before round (with_event before (event.Round round))
    (event.Ruled seat 1 (ruling_told row) ∷ [])

-- the rows of standing lines for a round that is awaited are as the reports say
abbrev pub StandingRowsAreReported : Type 0
StandingRowsAreReported =
    (file : List ℕ) (last : Between) (round : Round) (seat : Seat)
    → IsAccepted file → IsEnded file → Plays file last → last.next ≡ next.Round round
    → is_round_of_line round ≡ true → seat.0 < length (players_of file)
    → AllByRecursion (IsStandingReported file last.game round seat) (standing_rows last.game.events seat round)
