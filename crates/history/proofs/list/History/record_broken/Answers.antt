use Rattle.std.proofs.Common.{subst, sym}
use Rattle.history.proofs.NearlySound.{broken_quiet, quiet_sound}
use Rattle.history.specs.Sound.{IsSound}
use Rattle.history.proofs.list.History.record_broken.Goals as goal

pub returns-clause-sound : goal.returns-clause-sound
returns-clause-sound c = λ sound. subst IsSound (sym c.in_ok-append.ensures.ok) (quiet_sound _ _ broken_quiet sound)
