use Rattle.std.proofs.Common.{◌≡◌, Some}
use Rattle.desk_trials.specs.Heads.{came}
use Rattle.desk_trials.specs.SheetLines.{complete_by}
use Rattle.desk_trials.proofs.check_sheets.Heads.complete_by.Given as goal

-- the line by which the players of the seats so far had one
abbrev pub invariant-loop-number : goal.invariant-loop-number
invariant-loop-number l = complete_by l.number l.round (came l.self) ≡ Some l.by
