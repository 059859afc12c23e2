-- The event in hand is at the end of those that are left: it speaks of the thing, or it leaves what
-- the others say.
use Rattle.std.proofs.Common.{sym, ◌∙◌}
use Rattle.totals.proofs.EventAtEnd.{last_said_here, last_said_before}
use Rattle.totals.proofs.event_folds.last_said.Goals as goal

pub returns-in-Some-word : goal.returns-in-Some-word
returns-in-Some-word g c =
    sym (c.loop-event.invariant.2 ∙ last_said_here _ _ _ _ _ c.in-Some.ensures.steps (sym c.in-Some-word.ensures))

pub loop-event-preserved : goal.loop-event-preserved
loop-event-preserved g c =
    (tt, tt, c.loop-event.invariant.2 ∙ last_said_before _ _ _ _ c.in-Some.ensures.steps (sym c.in_default.ensures))
