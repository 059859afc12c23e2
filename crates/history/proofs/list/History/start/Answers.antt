use Rattle.history.proofs.Soundness.{start_sound}
use Rattle.history.proofs.list.History.start.Goals as goal

pub returns-clause-sound : goal.returns-clause-sound
returns-clause-sound c = rw c.new.ensures.items (start_sound _)
