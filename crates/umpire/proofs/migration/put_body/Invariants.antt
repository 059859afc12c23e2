use Rattle.std.proofs.Common.{◌≡◌, false, length}
use Rattle.umpire.proofs.BodyLemmas.{Putting}
use Rattle.umpire.proofs.migration.put_body.Given as goal

-- the lines so far are put, except for those that are kept, and no call failed
pub record Put (g : goal.Over) (l : goal.Live-loop-piece g) : Type 0 where
  pub putting :
      Putting (g.W.Write.contents l.fn.writer.inner) (g.W.Write.contents l.writer.inner) l.fn.gathered.items
      l.gathered.items
      l.text l.kept l.rest
  pub unfailed : l.writer.failed ≡ false

abbrev pub invariant-loop-piece : goal.invariant-loop-piece
invariant-loop-piece g l = Put g l

abbrev pub decreases-loop-piece : goal.decreases-loop-piece
decreases-loop-piece g l = length l.rest
