-- Why a line was refused.
use Rattle.std.specs.Prelude.{ℕ, ◌==◌, ◌&&◌, Bool, nat_lt, if◌then◌else◌, List, Option, Some, None, find}
use Rattle.desk_base.specs.declared.reason.Reason.{Reason}
use Rattle.desk_base.specs.declared.reason.Reason.TheVariants as reason
use Rattle.desk_why.specs.declared.sheet_line.LinePlace.{LinePlace}
use Rattle.desk_why.specs.declared.sheet_line.LinePlace.TheVariants as place
use Rattle.desk_why.specs.declared.sheet_line.SheetLine.{SheetLine}
use Rattle.events.specs.declared.ruling.Verdict.{Verdict}
use Rattle.events.specs.declared.ruling.Verdict.TheVariants as verdict
use Rattle.tables.specs.declared.roster.Company.{Company}
use Rattle.tables.specs.declared.seat.Seat.{Seat}

-- the fault of the line or the rule that its order broke; none if it was obeyed
abbrev pub reason_of : Verdict → Option Reason
reason_of verdict.Obeyed = None
reason_of (verdict.Faulty fault) = Some (reason.Line fault)
reason_of (verdict.Refused rule) = Some (reason.Order rule)

-- a line has this number in the sheet of this seat
abbrev pub is_line_of : Seat → ℕ → SheetLine → Bool
is_line_of seat number line = line.number == number && line.seat.0 == seat.0

-- how many lines of a sheet are kept, of which those past the 512th have one fault
abbrev pub lines_kept : ℕ
lines_kept = 1024

-- the first of some lines that has, if its number is not past the last that is kept
abbrev pub line_at : List SheetLine → Seat → ℕ → Option SheetLine
line_at lines seat number = if nat_lt lines_kept number then None else find (is_line_of seat number) lines

-- the company among whose orders a line stands, if it stands among some
abbrev pub company_at : LinePlace → Option Company
company_at place.Standing = None
company_at place.Turn = None
company_at (place.Orders company) = Some company
