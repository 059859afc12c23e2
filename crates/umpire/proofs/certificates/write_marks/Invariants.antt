use Rattle.std.proofs.Common.{◌≡◌, ℕ, ◌≤◌, false, length}
use Rattle.umpire.specs.Written.{marks_lines, marks_lines_within}
use Rattle.umpire.proofs.Parts.{LeavesRest}
use Rattle.umpire.proofs.certificates.write_marks.Given as goal

-- as many lines suffice for the marks ahead, which are left of the text, and no call failed
pub record Writing (g : goal.Over) (l : goal.Live-loop-marks g) : Type 0 where
  pub count : ℕ
  pub within : length l.marks ≤ count
  pub left :
      LeavesRest (g.W.Write.contents l.fn.writer.inner) (g.W.Write.contents l.writer.inner) (marks_lines l.bits)
      (marks_lines_within count l.marks)
  pub unfailed : l.writer.failed ≡ false

abbrev pub invariant-loop-marks : goal.invariant-loop-marks
invariant-loop-marks g l = Writing g l

abbrev pub decreases-loop-marks : goal.decreases-loop-marks
decreases-loop-marks g l = length l.marks
