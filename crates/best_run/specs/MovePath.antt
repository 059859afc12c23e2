-- The path: the marks of the moves that earn the best found, and the runs that they give. Train by
-- train, greatest first, a train passes or has a run. A run is steps, one after the other, that may
-- be turned about once, and are finished.
use Rattle.std.specs.Prelude.{◌≡◌, ◌≤◌, not, Option, Some, None, Vec, option_map, List, [], ◌∷◌, ◌++◌, length, map}
use Rattle.std.specs.Prelude.{reverse}
use Rattle.std.specs.Global.{Global}
use Rattle.std.specs.List.{AllByRecursion}
use Rattle.reach.specs.declared.walk.WalkStep.{WalkStep}
use Rattle.tables.specs.declared.rolling_stock.Kind.{Kind}
use Rattle.legal_runs.specs.Set.{TrainRun}
use Rattle.legal_runs.specs.Written.{places_of}
use Rattle.legal_runs.specs.declared.claim.ClaimedRun.{ClaimedRun}
use Rattle.best_run.specs.declared.move_path.Mark.{Mark}
use Rattle.best_run.specs.declared.move_path.Mark.TheVariants.{Go, Pass, Finish, Turn}
use Rattle.best_run.specs.declared.move_path.MovePath.{MovePath}

-- the marks of a path, from the first to the last
abbrev pub marks_in : MovePath → List Mark
marks_in move_path = reverse move_path.marks.items

-- the marks of some steps
abbrev pub go_along : List WalkStep → List Mark
go_along steps = map (λ step. Go step) steps

-- unless an allocation has failed, some marks have come before the others
pub record IsWritten (marks : List Mark) (old new : MovePath) : Type 0 where
  pub refused : new.refused ≡ None → old.refused ≡ None
  pub marks_are : new.refused ≡ None → marks_in new ≡ marks ++ marks_in old

-- a walk from its other end: each step is taken the other way over its link, the last one first
abbrev pub turned_step : WalkStep → WalkStep
turned_step step = record { link = step.link; turned = not step.turned }

abbrev pub turned_about : List WalkStep → List WalkStep
turned_about steps = map turned_step (reverse steps)

-- the walk of the next train that some marks give, whose steps so far are known, the latest first;
-- none if the train does not run
abbrev pub walk_of_marks : List WalkStep → List Mark → Option (List WalkStep)
walk_of_marks walk [] = None
walk_of_marks walk (Pass ∷ marks) = None
walk_of_marks walk (Go step ∷ marks) = walk_of_marks (step ∷ walk) marks
walk_of_marks walk (Turn ∷ marks) = walk_of_marks (turned_about walk) marks
walk_of_marks walk (Finish ∷ marks) = Some walk

-- the marks after those of the next train
abbrev pub after_walk : List Mark → List Mark
after_walk [] = []
after_walk (Pass ∷ marks) = marks
after_walk (Go step ∷ marks) = after_walk marks
after_walk (Turn ∷ marks) = after_walk marks
after_walk (Finish ∷ marks) = marks

-- a train's run, if it runs, before those of others
abbrev pub with_run : Kind → Option (List WalkStep) → List TrainRun → List TrainRun
with_run kind None runs = runs
with_run kind (Some steps) runs = record { kind = kind; steps = steps } ∷ runs

-- the runs of some trains that some marks give, given the first one's steps so far
abbrev pub runs_of_marks : List Kind → List WalkStep → List Mark → List TrainRun
runs_of_marks [] walk marks = []
runs_of_marks (kind ∷ kinds) walk marks =
    with_run kind (walk_of_marks walk marks) (runs_of_marks kinds [] (after_walk marks))

-- some runs, in full by their places
abbrev pub written : List TrainRun → List ClaimedRun
written [] = []
written (run ∷ runs) = record { kind = run.kind; run = places_of run.steps } ∷ written runs

-- a run that can be written in full
pub record CanBeClaimed (run : TrainRun) : Type 0 where
  pub least : 2 ≤ length (places_of run.steps)
  pub most : length (places_of run.steps) ≤ 280

-- the runs that a path gives of some trains
abbrev pub runs_in : List Kind → MovePath → List TrainRun
runs_in kinds move_path = runs_of_marks kinds [] (marks_in move_path)

-- all runs that a path gives of some trains can be written in full
abbrev pub CanBeRead : List Kind → MovePath → Type 0
CanBeRead kinds move_path = AllByRecursion CanBeClaimed (runs_in kinds move_path)

-- the runs that a path gives of some trains are written in full
abbrev pub IsRead : List Kind → MovePath → List ClaimedRun → Type 0
IsRead kinds move_path runs = runs ≡ written (runs_in kinds move_path)

-- the steps of a walk, if there is one
abbrev pub steps_of : Option (Vec WalkStep Global) → Option (List WalkStep)
steps_of walk = option_map (λ (steps : Vec WalkStep Global). steps.items) walk

-- the marks of the next train are read and removed; both lists of marks are from the last to the
-- first
pub record IsWalkRead (old new : List Mark) (walk : Option (Vec WalkStep Global)) : Type 0 where
  pub walk_is : steps_of walk ≡ walk_of_marks [] (reverse old)
  pub after : reverse new ≡ after_walk (reverse old)
