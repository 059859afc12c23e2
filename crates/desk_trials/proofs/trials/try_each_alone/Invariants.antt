-- the copy of the file stays
use Rattle.foresight.specs.TrialFile.{IsBegun}
use Rattle.desk_trials.proofs.trials.try_each_alone.Given as goal

abbrev pub invariant-loop-head : goal.invariant-loop-head
invariant-loop-head l = IsBegun l.sheets l.trial
