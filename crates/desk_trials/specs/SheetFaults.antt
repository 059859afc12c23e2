-- What is said of the fault of a line of a sheet, and which lines of a sheet are read.
use Rattle.std.specs.Prelude.{ℕ, ◌+◌, Bool, true, false, ◌&&◌, ◌||◌, not, nat_lt, if◌then◌else◌, List}
use Rattle.desk_trials.specs.SheetLike.{closes}
use Rattle.desk_trials.specs.declared.check_found.Said.{Said}
use Rattle.desk_trials.specs.declared.check_found.Said.TheVariants.{Faulty, Unopened}
use Rattle.order_grammar.specs.declared.fault.Fault.{Fault}
use Rattle.order_grammar.specs.declared.fault.Fault.TheVariants.{OutOfPlace}
use Rattle.sheets.specs.Limits.{lines_most}
use Rattle.sheets.specs.Text.{is_blank}

-- the fault of an order that has no place
abbrev pub is_out_of_place : Fault → Bool
is_out_of_place OutOfPlace = true
is_out_of_place other = false

-- what is said of a line with this fault, behind a head or before the first
abbrev pub said_of_fault : Bool → Fault → Said
said_of_fault is_open fault = if not is_open && is_out_of_place fault then Unopened else Faulty fault

-- how many lines are numbered with one more; blank ones are not
abbrev pub number_then : ℕ → List ℕ → ℕ
number_then number text = if is_blank text then number else number + 1

-- the sheet ends at a line, or was meant to, or so many lines came before it that it is not read
abbrev pub ends_sheet : ℕ → List ℕ → Bool
ends_sheet number text = closes text || nat_lt lines_most number
