use Rattle.std.proofs.Common.{◌≡◌, ◌-◌, length}
use Rattle.std.specs.List.{range_with_len}
use Rattle.history.specs.Sound.{IsSound}
use Rattle.purchases.specs.Standing.{after_operating_standing_line}
use Rattle.sheets.specs.File.{players_of}
use Rattle.sheets.specs.Taken.{after_all_before}
use Rattle.totals.specs.LookBack.{with_events}
use Rattle.purchases.proofs.standing.rule_standing_lines.Given as goal

-- the seats that are left lead from here where all lead from the start
abbrev pub invariant-loop-seat : goal.invariant-loop-seat
invariant-loop-seat l = record {
  after :
      with_events l.history (after_all_before after_operating_standing_line l.sheets l.round l.history.events
      (range_with_len l.seat (length (players_of l.sheets) - l.seat)))
      ≡ with_events l.fn.history (after_all_before after_operating_standing_line l.sheets l.round l.fn.history.events
      (range_with_len 0 (length (players_of l.sheets))));
  sound : IsSound l.history;
}
