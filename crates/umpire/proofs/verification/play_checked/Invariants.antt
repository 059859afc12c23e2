use Rattle.std.proofs.Common.{ℕ, List}
use Rattle.operating.specs.Calls.{AreMade, Call}
use Rattle.report.specs.Parts.{IsTextOfSteps}
use Rattle.rounds.specs.Steps.{IsUnbroken, places_ahead, started}
use Rattle.rounds.specs.StepsCall.{StepsCall}
use Rattle.umpire.specs.Groups.{groups_of}
use Rattle.umpire.specs.Verifier.{AnswersByText}
use Rattle.umpire.proofs.verification.play_checked.Given as goal

-- Some steps have led here. Their calls succeeded by the groups that are used, the texts of their
-- rounds were written, and no fault has broken play off.
pub record Checking (l : goal.Live-loop-texts) : Type 0 where
  pub steps : ℕ
  pub calls : List Call
  pub called : StepsCall steps l.fn.play.file l.play calls
  pub made : AreMade AnswersByText (groups_of l.fn.certificates) calls l.verifier
  pub rounds : ℕ
  pub is_text : IsTextOfSteps rounds (started l.fn.play.file) l.play l.texts.items
  pub unbroken : IsUnbroken l.play

abbrev pub invariant-loop-texts : goal.invariant-loop-texts
invariant-loop-texts l = Checking l

-- each round has a later place than the one before
abbrev pub decreases-loop-texts : goal.decreases-loop-texts
decreases-loop-texts l = places_ahead l.play
