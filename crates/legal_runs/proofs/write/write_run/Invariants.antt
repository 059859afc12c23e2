-- The places so far are those of the steps that are gone over; what is left are the places of the
-- others.
use Rattle.std.proofs.Common.{◌≡◌, ◌++◌}
use Rattle.std.specs.Iterator.Adapters.{rev_source}
use Rattle.std.specs.Slice.Iter.{iter_rest}
use Rattle.legal_runs.specs.Written.{places_of, places_over}
use Rattle.legal_runs.proofs.write.write_run.Given as goal

abbrev pub invariant-loop-step : goal.invariant-loop-step
invariant-loop-step l =
    goal.iterator-loop-step.can_next l.step-iterator ×
    goal.iterator-loop-step.is_finite l.step-iterator ×
    (l.places.items ++ places_over (iter_rest (rev_source l.step-iterator)) ≡ places_of l.steps)
