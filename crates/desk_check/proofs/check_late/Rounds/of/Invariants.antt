use Rattle.std.proofs.Common.{take}
use Rattle.desk_check.specs.RoundsPlayed.{AreRoundsOf}
use Rattle.desk_check.proofs.check_late.Rounds.of.Given as goal

-- the rounds that the events so far begin are kept
abbrev pub invariant-loop-event : goal.invariant-loop-event
invariant-loop-event l = AreRoundsOf l.heads l.rounds (take l.event-index l.event-items)
