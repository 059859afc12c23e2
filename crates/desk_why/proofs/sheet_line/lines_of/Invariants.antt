use Rattle.std.proofs.Common.{◌≡◌, map}
use Rattle.std.specs.List.{flat_map, range_with_len}
use Rattle.desk_why.specs.SheetLines.{lines_of_seat, placed}
use Rattle.tables.specs.Seat.{seat_at}
use Rattle.desk_why.proofs.sheet_line.lines_of.Given as goal

-- the lines of the seats so far
abbrev pub invariant-loop-seat : goal.invariant-loop-seat
invariant-loop-seat l =
    map placed l.lines.items
    ≡ flat_map (λ seat. lines_of_seat l.sheets l.round (seat_at seat)) (range_with_len 0 l.seat)
