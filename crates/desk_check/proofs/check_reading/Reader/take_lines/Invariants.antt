use Rattle.std.proofs.Common.{◌≡◌, ◌≤◌}
use Rattle.desk_check.specs.SheetSaid.{Adds, game_of, read_behind, read_below, shown_below, shown_in}
use Rattle.desk_trials.specs.declared.check_found.Found.{Found}
use Rattle.sheets.specs.Text.{lines_of}
use Rattle.desk_check.proofs.check_reading.Reader.take_lines.Given as goal

-- what is shown of the lines that are left completes what is shown of the sheet
abbrev pub invariant-loop-line : goal.invariant-loop-line
invariant-loop-line l =
    goal.iterator-loop-line.can_next l.line-iterator ×
    goal.iterator-loop-line.is_finite l.line-iterator ×
    (l.read.number ≤ 513) ×
    (l.found.from ≡ l.fn.found.from) ×
    ((new : Found) → Adds l.found new (shown_in l.self.version (game_of l.self) l.self.sent l.fn.found.from l.read
    l.line-iterator.passed (lines_of l.line-iterator.rest.now))
    → Adds l.fn.found new (shown_below l.self l.fn.found.from l.head)) ×
    (read_behind l.self.version l.self.sent l.read l.line-iterator.passed (lines_of l.line-iterator.rest.now)
    ≡ read_below l.self l.head)
