-- Each further step crosses a border that was not used. None of the links before the next one leads
-- on.
use Rattle.std.proofs.Common.{◌+◌, ◌*◌, not, take, count_by}
use Rattle.reach.specs.Position.{IsAmong, links_of}
use Rattle.reach.specs.declared.walk.WalkStep.{WalkStep}
use Rattle.legal_runs.specs.TwoTrain.{LeadsFrom}
use Rattle.legal_runs.proofs.two_train.+track.Given as goal

abbrev pub decreases-leads_on : goal.decreases-leads_on
decreases-leads_on g l = 3 * count_by not l.used.now

abbrev pub decreases-leads_from : goal.decreases-leads_from
decreases-leads_from g l = 3 * count_by not l.used.now + 1

abbrev pub decreases-leads_by_link : goal.decreases-leads_by_link
decreases-leads_by_link g l = 3 * count_by not l.used.now + 2

abbrev pub invariant-leads_on-loop-link : goal.invariant-leads_on-loop-link
invariant-leads_on-loop-link g l =
    (step : WalkStep) → IsAmong step.link (take l.link-index (links_of (g.N.Network.position l.network) l.next.hex))
    → LeadsFrom (g.N.Network.position l.network) l.start l.crossing l.next step → ⊥
