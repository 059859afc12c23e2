use Rattle.std.proofs.Common.{subst, sym}
use Rattle.history.proofs.NearlySound.{quiet_sound}
use Rattle.history.specs.Sound.{IsSound}
use Rattle.history.proofs.list.History.record_event.Goals as goal

pub returns-clause-sound : goal.returns-clause-sound
returns-clause-sound c = subst IsSound (sym c.in_ok-append.ensures.ok)
    (quiet_sound _ _ c.requires.quiet c.requires.sound)
