use Rattle.std.proofs.Common.{◌≡◌, None, take}
use Rattle.std.specs.List.{fold}
use Rattle.desk_round.specs.RunsRound.{seen_then}
use Rattle.desk_round.proofs.train_runs.last_with_runs.Given as goal

-- the rounds that the events so far have shown
abbrev pub invariant-loop-event : goal.invariant-loop-event
invariant-loop-event l =
    l.seen ≡ fold seen_then (record { begun = None; ran = None }) (take l.event-index l.events)
