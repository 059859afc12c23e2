use Rattle.std.proofs.Common.{◌≡◌, ◌+◌, false, length}
use Rattle.report.specs.Report.{unread_lines}
use Rattle.umpire.proofs.Parts.{LeavesRest}
use Rattle.umpire.proofs.report_end.write_unread.Given as goal

-- the lines for what came before the rest are written, and no call failed
pub record Writing (g : goal.Over) (l : goal.Live-loop-rest g) : Type 0 where
  pub left : LeavesRest (g.W.Write.contents l.fn.writer.inner) (g.W.Write.contents l.writer.inner)
      (unread_lines 0 l.unread) (unread_lines l.before l.rest)
  pub within : l.before + length l.rest ≡ length l.unread
  pub unfailed : l.writer.failed ≡ false

abbrev pub invariant-loop-rest : goal.invariant-loop-rest
invariant-loop-rest g l = Writing g l

-- how many are left
abbrev pub decreases-loop-rest : goal.decreases-loop-rest
decreases-loop-rest g l = length l.rest
