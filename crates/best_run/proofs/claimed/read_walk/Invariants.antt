-- What all its marks say of the train is what those say that are left, with the steps so far.
use Rattle.std.proofs.Common.{◌≡◌, [], reverse, vec_len}
use Rattle.best_run.specs.MovePath.{after_walk, walk_of_marks}
use Rattle.best_run.proofs.claimed.read_walk.Given as goal

abbrev pub invariant-loop-mark : goal.invariant-loop-mark
invariant-loop-mark l =
    (walk_of_marks (reverse l.walk.items) (reverse l.marks.items) ≡ walk_of_marks [] (reverse l.fn.marks.items)) ×
    (after_walk (reverse l.marks.items) ≡ after_walk (reverse l.fn.marks.items))

abbrev pub decreases-loop-mark : goal.decreases-loop-mark
decreases-loop-mark l = vec_len l.marks
