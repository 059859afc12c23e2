use Rattle.std.proofs.Common.{◌≡◌, false}
use Rattle.rounds.specs.Steps.{IsUnbroken, places_ahead}
use Rattle.umpire.specs.Rounds.{WritesRounds}
use Rattle.umpire.proofs.program.write_rounds.Given as goal

-- the rounds so far were written, no fault has broken play off, and no call failed
pub record Writing (g : goal.Over) (l : goal.Live-loop-play g) : Type 0 where
  pub rounds : WritesRounds l.fn.play.file l.play (g.W.Write.contents l.fn.writer.inner)
      (g.W.Write.contents l.writer.inner)
  pub unbroken : IsUnbroken l.play
  pub unfailed : l.writer.failed ≡ false

abbrev pub invariant-loop-play : goal.invariant-loop-play
invariant-loop-play g l = Writing g l

-- each round has a later place than the one before
abbrev pub decreases-loop-play : goal.decreases-loop-play
decreases-loop-play g l = places_ahead l.play
