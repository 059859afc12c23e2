use Rattle.std.proofs.Common.{◌≡◌, length}
use Rattle.history.specs.Sound.{IsSound}
use Rattle.purchases.specs.Standing.{after_operating_standing_line}
use Rattle.sheets.specs.Taken.{after_each}
use Rattle.totals.specs.LookBack.{with_events}
use Rattle.purchases.proofs.standing.rule_standing.Given as goal

-- the lines that are left lead from here where all lead from the start
abbrev pub invariant-loop-line : goal.invariant-loop-line
invariant-loop-line l = record {
  after :
      with_events l.history (after_each (after_operating_standing_line l.seat) l.history.events l.sheet.before)
      ≡ with_events l.fn.history
      (after_each (after_operating_standing_line l.seat) l.fn.history.events l.fn.sheet.before);
  sound : IsSound l.history;
}

abbrev pub decreases-loop-line : goal.decreases-loop-line
decreases-loop-line l = length l.sheet.before
