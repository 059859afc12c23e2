use Rattle.std.proofs.Common.{sym, subst, ◌∙◌}
use Rattle.purchases.proofs.PhaseLemmas.{discarded_sound}
use Rattle.history.specs.Sound.{IsSound}
use Rattle.purchases.proofs.discard.discard.Goals as goal

pub returns-clause-sound : goal.returns-clause-sound
returns-clause-sound c =
    subst IsSound (sym c.in_ok-append.ensures.ok) (discarded_sound c.args.history.now c.args.company _
    (sym c.in_ok-kind.ensures ∙ c.in-Some.is) c.requires)
