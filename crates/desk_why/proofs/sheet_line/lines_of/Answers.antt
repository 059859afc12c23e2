use Rattle.std.proofs.Common.{◌≡◌, ℕ, ◌++◌, ◌∙◌, ap, length, map, arith}
use Rattle.std.specs.List.{flat_map, range_with_len}
use Rattle.desk_why.proofs.SheetSteps.{more_seats}
use Rattle.desk_why.specs.SheetLines.{lines_of_seat, placed}
use Rattle.sheets.specs.File.{players_of}
use Rattle.tables.specs.Seat.{seat_at}
use Rattle.tables.specs.declared.seat.Seat.{Seat}
use Rattle.desk_why.proofs.sheet_line.lines_of.Goals as goal

pub loop-seat-preserved : goal.loop-seat-preserved
loop-seat-preserved c =
    more_seats (λ (seat : ℕ). lines_of_seat c.args.sheets.now c.args.round (seat_at seat)) c.loop-seat.seat
    (map placed c.loop-seat.lines.items) _ c.loop-seat.invariant
    (c.in_ok-push_sheet.ensures
    ∙ ap (λ (seat : Seat). map placed c.loop-seat.lines.items ++ lines_of_seat c.args.sheets.now c.args.round seat)
    c.at.ensures)

pub returns : goal.returns
returns c =
    let all : c.loop-seat.seat ≡ length (players_of c.args.sheets.now) = omega arith in
    c.loop-seat.invariant
    ∙ ap (λ (n : ℕ). flat_map (λ (seat : ℕ). lines_of_seat c.args.sheets.now c.args.round (seat_at seat))
    (range_with_len 0 n)) all
