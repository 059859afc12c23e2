use Rattle.std.proofs.Common.{◌≡◌, ℕ, List, false}
use Rattle.std.specs.Io.KnownBytes.{Appends}
use Rattle.certificate.specs.declared.group.Group.{Group}
use Rattle.operating.specs.Calls.{Call}
use Rattle.rounds.specs.Steps.{IsUnbroken, places_ahead}
use Rattle.rounds.specs.StepsCall.{StepsCall}
use Rattle.umpire.specs.Certified.{AreCertified}
use Rattle.umpire.specs.Written.{certificates_text}
use Rattle.umpire.proofs.certificates.write_game.Given as goal

-- some steps have led here; the groups that certify their calls are written, no fault has broken
-- play off, and no call of the writer failed
pub record Certifying (g : goal.Over) (l : goal.Live-loop-keeping g) : Type 0 where
  pub steps : ℕ
  pub calls : List Call
  pub groups : List Group
  pub called : StepsCall steps l.fn.sheets l.play calls
  pub certified : AreCertified calls groups
  pub written : Appends (g.W.Write.contents l.fn.writer.inner) (g.W.Write.contents l.writer.inner)
      (certificates_text groups)
  pub unbroken : IsUnbroken l.play
  pub unfailed : l.writer.failed ≡ false

abbrev pub invariant-loop-keeping : goal.invariant-loop-keeping
invariant-loop-keeping g l = Certifying g l

-- each round has a later place than the one before
abbrev pub decreases-loop-keeping : goal.decreases-loop-keeping
decreases-loop-keeping g l = places_ahead l.play
