use Rattle.std.proofs.Common.{◌≡◌, length}
use Rattle.sheets.specs.Part.{written_turns_of}
use Rattle.turns.specs.RoundOfTurns.{after_lines, in_turn}
use Rattle.turns.specs.Small.{PartsAreSmall}
use Rattle.turns.proofs.turn.rule_lines.Given as goal

-- the lines that are left of the written turn lead from here where the whole written turn leads
-- from the start
abbrev pub invariant-loop-line : goal.invariant-loop-line
invariant-loop-line g l = record {
  seats : l.history.seats ≡ l.fn.history.seats;
  turn :
      after_lines g.T.TurnRules.rules l.fn.history.seats l.seat (in_turn l.history.events l.actions) l.sheet.before
      ≡ after_lines g.T.TurnRules.rules l.fn.history.seats l.seat
      (in_turn l.fn.history.events g.T.TurnRules.rules.nothing) l.fn.sheet.before;
  written_turns : written_turns_of l.sheet ≡ written_turns_of l.fn.sheet;
  small : PartsAreSmall l.sheet;
  underway : g.T.TurnRules.holds l.history;
}

abbrev pub decreases-loop-line : goal.decreases-loop-line
decreases-loop-line g l = length l.sheet.before
