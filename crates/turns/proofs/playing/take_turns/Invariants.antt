use Rattle.std.proofs.Common.{◌≡◌, ◌<◌, ◌≤◌, All, length, map}
use Rattle.sheets.specs.Part.{written_turns_of}
use Rattle.tables.specs.Steps.{LeadsTo}
use Rattle.tables.specs.Turns.{after_turn, turns_most, turns_over}
use Rattle.turns.specs.RoundOfTurns.{in_play, turns_of}
use Rattle.turns.specs.Small.{IsReady}
use Rattle.turns.proofs.playing.take_turns.Given as goal

-- turns have led here, and were not over before
abbrev pub invariant-loop-passes : goal.invariant-loop-passes
invariant-loop-passes g l = record {
  seats : l.history.seats ≡ l.fn.history.seats;
  each : length l.unruled ≡ length l.fn.unruled;
  seat : l.seat < length l.fn.unruled;
  passes : l.passes ≤ length l.fn.unruled;
  leads :
      LeadsTo (after_turn (turns_of g.T.TurnRules.rules l.fn.history.seats))
      (turns_over (turns_of g.T.TurnRules.rules l.fn.history.seats))
      (in_play l.fn.history.events l.first 0 (map written_turns_of l.fn.unruled))
      (in_play l.history.events l.seat l.passes (map written_turns_of l.unruled));
  ready : All IsReady l.unruled;
  underway : g.T.TurnRules.holds l.history;
}

abbrev pub decreases-loop-passes : goal.decreases-loop-passes
decreases-loop-passes g l = turns_most (turns_of g.T.TurnRules.rules l.fn.history.seats)
    (in_play l.history.events l.seat l.passes (map written_turns_of l.unruled))
