use Rattle.std.proofs.Common.{◌≡◌, ◌<◌, List, length, map, sym, ap, ◌∙◌, arith}
use Rattle.totals.specs.LookBack.{priority_of, Game}
use Rattle.sheets.specs.Part.{SheetParts, written_turns_of}
use Rattle.tables.specs.declared.seat.Seat.{Seat}
use Rattle.turns.proofs.Turns.{priority_within}
use Rattle.turns.proofs.WholeRound.{whole_round}
use Rattle.turns.proofs.playing.play_whole.Goals as goal

pub take_turns-requires-clause-first : goal.take_turns-requires-clause-first
take_turns-requires-clause-first g c =
    let first : c.index.result ≡ (priority_of c.args.history.now.seats c.args.history.now.events).0 =
    c.index.ensures.value ∙ ap (λ (s : Seat). s.0) (c.priority-first.ensures
    ∙ ap (λ (game : Game). priority_of game.seats game.events) c.now.ensures) in
    let each : length c.as_mut_slice-unruled.result.now ≡ c.args.history.now.seats =
    ap (λ (unruled : List SheetParts). length unruled) c.as_mut_slice-unruled.ensures.value ∙ c.in_ok-unruled.ensures.each
    ∙ sym c.requires.seats
    in
    let some : 0 < c.args.history.now.seats = let has = c.in_ok-unruled.ensures.some in let count =
    c.in_ok-unruled.ensures.each in let players = c.requires.seats in omega arith in
    let within = priority_within c.args.history.now.seats c.args.history.now.events some in
    omega arith

pub returns-clause-round : goal.returns-clause-round
returns-clause-round g c =
    let first : c.index.result ≡ (priority_of c.args.history.now.seats c.args.history.now.events).0 =
    c.index.ensures.value ∙ ap (λ (s : Seat). s.0) (c.priority-first.ensures
    ∙ ap (λ (game : Game). priority_of game.seats game.events) c.now.ensures) in
    whole_round g.T.TurnRules.rules c.args.sheets.now c.args.round c.args.history.now c.begin.new.history
    c.rule_all_standing.new.history c.take_turns.new.history c.close.new.history c.record_all_left.new.history
    c.index.result (map written_turns_of c.as_mut_slice-unruled.result.now) (map written_turns_of c.take_turns.new.unruled)
    c.requires.seats c.in_ok-begin.ensures.event c.in_ok-unruled.ensures.after
    (ap (λ (unruled : List SheetParts). map written_turns_of unruled) c.as_mut_slice-unruled.ensures.value
    ∙ c.in_ok-unruled.ensures.left) first c.in_ok-take_turns.ensures.seats c.in_ok-take_turns.ensures.turns
    c.in_ok-close.ensures.after c.in_ok-record_all_left.ensures.after
