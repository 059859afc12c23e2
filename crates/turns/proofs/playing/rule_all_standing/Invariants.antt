use Rattle.std.proofs.Common.{◌≡◌, ◌-◌, All, length, map}
use Rattle.std.specs.List.{range_with_len}
use Rattle.sheets.specs.File.{players_of}
use Rattle.sheets.specs.Part.{written_turns_of}
use Rattle.totals.specs.LookBack.{with_events}
use Rattle.turns.specs.RoundOfTurns.{after_standing, written_turns_for}
use Rattle.turns.specs.Small.{IsReady}
use Rattle.turns.proofs.playing.rule_all_standing.Given as goal

-- the seats that are left lead from here where all lead from the start
abbrev pub invariant-loop-seat : goal.invariant-loop-seat
invariant-loop-seat g l = record {
  after :
      with_events l.history (after_standing g.T.TurnRules.rules l.sheets l.round l.history.events
      (range_with_len l.seat (length (players_of l.sheets) - l.seat)))
      ≡ with_events l.fn.history (after_standing g.T.TurnRules.rules l.sheets l.round l.fn.history.events
      (range_with_len 0 (length (players_of l.sheets))));
  left : map written_turns_of l.unruled.items ≡ written_turns_for l.seat l.sheets l.round;
  each : length l.unruled.items ≡ l.seat;
  ready : All IsReady l.unruled.items;
  underway : g.T.TurnRules.holds l.history;
}
