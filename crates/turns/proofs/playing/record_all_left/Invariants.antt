use Rattle.std.proofs.Common.{◌≡◌, ◌++◌, drop, map}
use Rattle.sheets.specs.Part.{written_turns_of}
use Rattle.totals.specs.LookBack.{with_events}
use Rattle.turns.specs.RoundOfTurns.{left_from}
use Rattle.turns.proofs.playing.record_all_left.Given as goal

-- the seats that are left bring what all bring
abbrev pub invariant-loop-seat : goal.invariant-loop-seat
invariant-loop-seat g l = record {
  after :
      with_events l.history (l.history.events ++ left_from l.seat (map written_turns_of (drop l.seat l.unruled)))
      ≡ with_events l.fn.history (l.fn.history.events ++ left_from 0 (map written_turns_of l.unruled));
  underway : g.T.TurnRules.holds l.history;
}
