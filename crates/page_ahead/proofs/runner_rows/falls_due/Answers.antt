-- A purchase is due where the company has no train, and can run by the map state.
use Rattle.std.proofs.Common.{◌≡◌, true, false, ap, sym, subst, ◌∙◌}
use Rattle.board_state.specs.MapState.{MapState, position_of}
use Rattle.legal_runs.specs.TwoTrain.{CanRun}
use Rattle.purchases.specs.Train.{has_trains}
use Rattle.totals.specs.LookBack.{Game}
use Rattle.page_ahead.proofs.runner_rows.falls_due.Goals as goal

pub returns-then-has_trains : goal.returns-then-has_trains
returns-then-has_trains c = (
  λ wrong. absurd cc,
  λ due.
      let wrong : true ≡ false = sym c.if-has_trains.true ∙ c.has_trains.ensures
      ∙ ap (λ (game : Game). has_trains game.events c.args.company) c.now.ensures ∙ due.0 in
      absurd cc,
)

pub returns : goal.returns
returns c = (
  λ yes. (
    ap (λ (game : Game). has_trains game.events c.args.company) (sym c.now.ensures)
        ∙ sym c.has_trains.ensures ∙ c.if-has_trains.false,
    subst (λ (laid : MapState). CanRun (position_of laid) c.args.company) c.requires (c.can_run.ensures.0 yes),
  ),
  λ due. c.can_run.ensures.1 (subst (λ (laid : MapState). CanRun (position_of laid) c.args.company) (sym c.requires) due.1),
)
