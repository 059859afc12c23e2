use Rattle.std.proofs.Common.{take}
use Rattle.std.specs.List.{flat_map}
use Rattle.desk_check.specs.SheetSaid.{Adds, game_of, silent_one}
use Rattle.tables.specs.Roster.{companies}
use Rattle.desk_check.proofs.check_reading.Reader.add_silent.Given as goal

-- what is shown of the companies so far is added
abbrev pub invariant-loop-company : goal.invariant-loop-company
invariant-loop-company l =
    Adds l.fn.found l.found
    (flat_map (silent_one (game_of l.self) l.self.sent l.head.line.number l.begun) (take l.company-index companies))
