use Rattle.std.proofs.Common.{◌≡◌, ◌+◌, ◌++◌, drop}
use Rattle.report.specs.Report.{unread_lines}
use Rattle.report.proofs.text.push_unread.Given as goal

-- what is written so far and the lines to come make up the text
abbrev pub invariant-loop-i : goal.invariant-loop-i
invariant-loop-i l = l.out.items ++ unread_lines (l.before + l.i) (drop l.i l.unread)
    ≡ l.fn.out.items ++ unread_lines l.before l.unread
