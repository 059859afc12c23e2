use Rattle.std.proofs.Common.{◌≡◌, take}
use Rattle.std.specs.List.{fold}
use Rattle.desk_round.specs.RunsRound.{RunsSoFar, no_runs, runs_then}
use Rattle.desk_round.proofs.train_runs.runs_in.Given as goal

-- what companies earned by the events so far
abbrev pub invariant-loop-passed : goal.invariant-loop-passed
invariant-loop-passed l =
    ◌≡◌ {A = RunsSoFar} (record { within = l.within; passed = l.passed; ruled = l.ruled; rows = l.rows.items })
    (fold (runs_then l.round) no_runs (take l.passed l.events))
