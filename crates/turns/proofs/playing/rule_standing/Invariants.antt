use Rattle.std.proofs.Common.{◌≡◌, length}
use Rattle.sheets.specs.Taken.{after_each}
use Rattle.totals.specs.LookBack.{with_events}
use Rattle.turns.specs.Small.{PartsAreSmall}
use Rattle.turns.proofs.playing.rule_standing.Given as goal

-- the lines that are left lead from here where all lead from the start
abbrev pub invariant-loop-line : goal.invariant-loop-line
invariant-loop-line g l = record {
  after :
      with_events l.history (after_each (g.T.TurnRules.rules.standing l.seat) l.history.events l.sheet.before)
      ≡ with_events l.fn.history
      (after_each (g.T.TurnRules.rules.standing l.seat) l.fn.history.events l.fn.sheet.before);
  opened : l.sheet.opened ≡ l.fn.sheet.opened;
  small : PartsAreSmall l.sheet;
  underway : g.T.TurnRules.holds l.history;
}

abbrev pub decreases-loop-line : goal.decreases-loop-line
decreases-loop-line g l = length l.sheet.before
