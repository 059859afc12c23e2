use Rattle.std.proofs.Common.{◌<◌, ◌-◌, ◌+◌, List, length, rules, refl, sym, subst, ap, ◌∙◌}
use Rattle.std.specs.List.{range_with_len}
use Rattle.std.proofs.lemmas.List.Elements.{All-push}
use Rattle.sheets.proofs.TakenLemmas.{more_written_turns, standing_goes_on}
use Rattle.events.specs.declared.event.Event.{Event}
use Rattle.sheets.specs.File.{players_of}
use Rattle.sheets.specs.Taken.{after_each}
use Rattle.totals.specs.LookBack.{Game, with_events}
use Rattle.turns.specs.RoundOfTurns.{after_standing}
use Rattle.turns.proofs.Small.{parts_small, ready_after}
use Rattle.turns.specs.Small.{IsReady, PartsAreSmall}
use Rattle.turns.proofs.playing.rule_all_standing.Goals as goal

pub loop-seat-preserved : goal.loop-seat-preserved
loop-seat-preserved g c =
    let file = c.args.sheets.now in
    let rules_of = g.T.TurnRules.rules in
    let here = c.loop-seat.history in
    let small : PartsAreSmall c.parts-sheet.result =
    subst PartsAreSmall (sym c.parts-sheet.ensures) (parts_small file c.args.round c.at-seat.result.0) in
    let within : c.loop-seat.seat < length (players_of file) = search rules in
    record {
      after =
          ap (λ (game : Game). with_events game (after_standing rules_of file c.args.round game.events
          (range_with_len (c.loop-seat.seat + 1) (length (players_of file) - (c.loop-seat.seat + 1)))))
          c.in_ok-rule_standing.ensures.after
          ∙ ap (λ (events : List Event). with_events here events)
          (standing_goes_on rules_of.standing file c.args.round c.loop-seat.seat (length (players_of file)) here.events
          (after_each (rules_of.standing c.at-seat.result) here.events c.parts-sheet.result.before)
          c.parts-sheet.result c.at-seat.result within refl c.at-seat.ensures c.parts-sheet.ensures)
          ∙ c.loop-seat.invariant.after;
      left = rw c.push.ensures.items (more_written_turns file c.args.round c.loop-seat.seat c.loop-seat.unruled.items
          c.parts-sheet.result c.rule_standing.new.sheet c.at-seat.result c.loop-seat.invariant.left c.at-seat.ensures
          c.parts-sheet.ensures c.in_ok-rule_standing.ensures.left);
      each = search rules;
      ready = rw c.push.ensures.items (All-push IsReady _ _ c.loop-seat.invariant.ready
          (ready_after c.parts-sheet.result c.rule_standing.new.sheet c.in_ok-rule_standing.ensures.left small));
      underway = c.in_ok-rule_standing.ensures.underway;
    }

pub rule_standing-requires-clause-small : goal.rule_standing-requires-clause-small
rule_standing-requires-clause-small g c =
    subst PartsAreSmall (sym c.parts-sheet.ensures) (parts_small c.args.sheets.now c.args.round c.at-seat.result.0)
