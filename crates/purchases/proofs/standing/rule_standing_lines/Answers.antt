use Rattle.std.proofs.Common.{◌<◌, ◌-◌, ◌+◌, List, length, rules, refl, ap, ◌∙◌}
use Rattle.std.specs.List.{range_with_len}
use Rattle.events.specs.declared.event.Event.{Event}
use Rattle.sheets.proofs.TakenLemmas.{standing_goes_on}
use Rattle.sheets.specs.File.{players_of}
use Rattle.sheets.specs.Taken.{after_all_before, after_each}
use Rattle.purchases.specs.Standing.{after_operating_standing_line}
use Rattle.totals.specs.LookBack.{Game, with_events}
use Rattle.purchases.proofs.standing.rule_standing_lines.Goals as goal

pub loop-seat-preserved : goal.loop-seat-preserved
loop-seat-preserved c =
    let file = c.args.sheets.now in
    let here = c.loop-seat.history in
    let within : c.loop-seat.seat < length (players_of file) = search rules in
    record {
      after =
          ap (λ (game : Game). with_events game (after_all_before after_operating_standing_line file c.args.round
          game.events (range_with_len (c.loop-seat.seat + 1) (length (players_of file) - (c.loop-seat.seat + 1)))))
          c.in_ok-rule_standing.ensures.after
          ∙ ap (λ (events : List Event). with_events here events)
          (standing_goes_on after_operating_standing_line file c.args.round c.loop-seat.seat (length (players_of file))
          here.events (after_each (after_operating_standing_line c.at-seat.result) here.events c.parts.result.before)
          c.parts.result c.at-seat.result within refl c.at-seat.ensures c.parts.ensures)
          ∙ c.loop-seat.invariant.after;
      sound = c.in_ok-rule_standing.ensures.sound;
    }
