use Rattle.std.proofs.Common.{◌≡◌, ◌-◌, ◌++◌, map, take}
use Rattle.desk_why.specs.SheetLines.{lines_left, lines_of_seat, placed}
use Rattle.desk_why.specs.Why.{lines_kept}
use Rattle.desk_why.proofs.sheet_line.push_sheet.Given as goal

-- those that are kept so far, and of those that are left as many as are kept, are the lines of the sheet
abbrev pub invariant-loop : goal.invariant-loop
invariant-loop l =
    map placed l.lines.items ++ take (lines_kept - l.counter) (lines_left l.seat l.place l.parts)
    ≡ map placed l.fn.lines.items ++ lines_of_seat l.sheets l.fn.round l.seat
