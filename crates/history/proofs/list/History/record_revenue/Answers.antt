use Rattle.std.proofs.Common.{subst, sym, ◌∙◌}
use Rattle.history.proofs.Acts.{revenue_sound}
use Rattle.history.specs.Sound.{IsSound}
use Rattle.history.proofs.list.History.record_revenue.Goals as goal

pub returns-clause-sound : goal.returns-clause-sound
returns-clause-sound c =
    c.record_broken.ensures.sound (subst IsSound (sym c.in_ok-append.ensures.ok)
    (revenue_sound _ _ _ _ (sym c.owner.ensures ∙ c.in-Some.is) c.requires))
