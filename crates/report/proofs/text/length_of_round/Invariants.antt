use Rattle.std.proofs.Common.{◌≡◌, ◌≤◌, ◌-◌, length, take, drop}
use Rattle.report.specs.Report.{ends_round, rounds_in}
use Rattle.report.proofs.Rounds.{with_events}
use Rattle.report.proofs.text.length_of_round.Given as goal

-- the events so far are the prefix of the first round
pub record LengthSoFar (l : goal.Live-loop-length) : Type 0 where
  pub some : 1 ≤ l.length
  pub within : l.length ≤ length l.events
  pub first : rounds_in l.events ≡ with_events (take l.length l.events) (ends_round (drop l.length l.events))
      (rounds_in (drop l.length l.events))

abbrev pub invariant-loop-length : goal.invariant-loop-length
invariant-loop-length l = LengthSoFar l

abbrev pub decreases-loop-length : goal.decreases-loop-length
decreases-loop-length l = length l.events - l.length
