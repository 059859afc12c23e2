use Rattle.std.proofs.Common.{◌++◌, ◌∷◌, [], ◌∙◌, ap}
use Rattle.events.specs.declared.event.Event.TheVariants.{Passes}
use Rattle.totals.specs.LookBack.{Game}
use Rattle.tables.specs.declared.seat.Seat.{Seat}
use Rattle.turns.proofs.Turns.{turn_acted, turn_passed}
use Rattle.turns.proofs.playing.play_turn.Goals as goal

pub returns-then-branch-clause-turn : goal.returns-then-branch-clause-turn
returns-then-branch-clause-turn g c =
    turn_acted g.T.TurnRules.rules c.args.history.now.seats c.args.history.now.events c.args.seat c.args.passes
    c.args.unruled.now c.index-unruled-seat.result c.take_turn.new.sheet _ c.requires.seat c.at.ensures
    c.in_ok-take_turn.ensures.left c.take_turn.new.history.events _ c.if-branch.true c.in_ok-take_turn.ensures.turn

pub returns-clause-turn : goal.returns-clause-turn
returns-clause-turn g c =
    turn_passed g.T.TurnRules.rules c.args.history.now.seats c.args.history.now.events c.args.seat c.args.passes
    c.args.unruled.now c.index-unruled-seat.result c.take_turn.new.sheet _ c.requires.seat c.at.ensures
    c.in_ok-take_turn.ensures.left c.take_turn.new.history.events c.pass.new.history.events _ c.if-branch.false
    c.in_ok-take_turn.ensures.turn
    (ap (λ (game : Game). game.events) c.in_ok-pass.ensures.event
    ∙ ap (λ (seat : Seat). c.take_turn.new.history.events ++ Passes seat ∷ []) c.at-2.ensures)
