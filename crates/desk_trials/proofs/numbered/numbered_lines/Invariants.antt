-- the lines so far, and those that are numbered among the lines that are left, are those of the sheet
use Rattle.std.proofs.Common.{◌≡◌, ◌++◌, map, vec_len}
use Rattle.desk_trials.specs.Numbered.{line_at, numbered_in, numbered_of}
use Rattle.sheets.specs.Text.{lines_of}
use Rattle.desk_trials.proofs.numbered.numbered_lines.Given as goal

abbrev pub invariant-loop-line : goal.invariant-loop-line
invariant-loop-line l =
    goal.iterator-loop-line.can_next l.line-iterator ×
    goal.iterator-loop-line.is_finite l.line-iterator ×
    (map line_at l.numbered.items
    ++ numbered_in (vec_len l.numbered) l.line-iterator.passed (lines_of l.line-iterator.rest.now)
    ≡ numbered_of l.head)
