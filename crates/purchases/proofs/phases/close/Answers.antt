use Rattle.std.proofs.Common.{sym, subst}
use Rattle.history.proofs.TrainActs.{closing_sound}
use Rattle.history.specs.Sound.{IsSound}
use Rattle.purchases.proofs.phases.close.Goals as goal

pub returns-clause-sound : goal.returns-clause-sound
returns-clause-sound c =
    subst IsSound (sym c.in_ok-append.ensures.ok) (closing_sound c.args.history.now c.args.private c.requires)
