-- The marks of the steps that are left are before those so far.
use Rattle.std.proofs.Common.{◌≡◌, None, ◌++◌}
use Rattle.std.specs.Iterator.Adapters.{rev_source}
use Rattle.std.specs.Slice.Iter.{iter_rest}
use Rattle.best_run.specs.MovePath.{go_along, marks_in}
use Rattle.best_run.proofs.move_path.MovePath.write_steps.Given as goal

abbrev pub invariant-loop-step : goal.invariant-loop-step
invariant-loop-step l =
    goal.iterator-loop-step.can_next l.step-iterator ×
    goal.iterator-loop-step.is_finite l.step-iterator ×
    (l.self.refused ≡ None → l.initial.self.refused ≡ None) ×
    (l.self.refused ≡ None → go_along (iter_rest (rev_source l.step-iterator)) ++ marks_in l.self
    ≡ go_along l.steps ++ marks_in l.initial.self)
