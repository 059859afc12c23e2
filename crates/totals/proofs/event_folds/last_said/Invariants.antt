-- What the list says is what those events say that are not looked at yet.
use Rattle.std.proofs.Common.{◌≡◌}
use Rattle.std.specs.Iterator.Adapters.{rev_source}
use Rattle.std.specs.Slice.Iter.{iter_rest}
use Rattle.totals.specs.LookBack.{last_said}
use Rattle.totals.proofs.event_folds.last_said.Given as goal

abbrev pub invariant-loop-event : goal.invariant-loop-event
invariant-loop-event g l =
    (goal.iterator-loop-event g).can_next l.event-iterator ×
    (goal.iterator-loop-event g).is_finite l.event-iterator ×
    (last_said (g.T.Topic.word l.topic) l.events ≡ last_said (g.T.Topic.word l.topic)
    (iter_rest (rev_source l.event-iterator)))
