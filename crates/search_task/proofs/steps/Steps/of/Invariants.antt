-- The steps before the next one are among the few.
use Rattle.std.proofs.Common.{◌≡◌, ◌++◌, ◌-◌, replicate, take}
use Rattle.search_task.proofs.steps.Steps.of.Given as goal

abbrev pub invariant-loop-place : goal.invariant-loop-place
invariant-loop-place l = l.few ≡ take l.place l.first ++ replicate (4 - l.place) l.fn.last
