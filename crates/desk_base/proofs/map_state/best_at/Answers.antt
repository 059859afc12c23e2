use Rattle.std.proofs.Common.{◌∙◌}
use Rattle.desk_base.proofs.BestRuns.{greatest_in_game, holds_in_game}
use Rattle.operating.specs.MapState.{map_state_now}
use Rattle.operating.specs.RunBest.{trains_now}
use Rattle.desk_base.proofs.map_state.best_at.Goals as goal

pub returns-clause-holds : goal.returns-clause-holds
returns-clause-holds c =
    let events = c.args.view.now.events in
    holds_in_game _ (map_state_now events) c.args.company _ (trains_now events c.args.company) _
    c.in_ok-board.ensures (c.as_slice.ensures.value ∙ c.in_ok-trains.ensures) c.in_ok-found.ensures.accepted.claim_holds

pub returns-clause-greatest : goal.returns-clause-greatest
returns-clause-greatest c =
    let events = c.args.view.now.events in
    greatest_in_game _ (map_state_now events) c.args.company _ (trains_now events c.args.company) _
    c.in_ok-board.ensures (c.as_slice.ensures.value ∙ c.in_ok-trains.ensures) c.in_ok-found.ensures.greatest
