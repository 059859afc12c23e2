use Rattle.std.proofs.Common.{length}
use Rattle.desk_check.specs.PlainLines.{IsPassed}
use Rattle.desk_check.proofs.plain_lines.pass_plain.Given as goal

-- the lines so far are passed over
abbrev pub invariant-loop-rest : goal.invariant-loop-rest
invariant-loop-rest l = IsPassed l.fn.lines l.lines

abbrev pub decreases-loop-rest : goal.decreases-loop-rest
decreases-loop-rest l = length l.lines.rest.now
