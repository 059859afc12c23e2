use Rattle.std.proofs.Common.{◌≡◌, Some, ap, sym, subst}
use Rattle.foresight.proofs.TurnsAhead.{next_has_floated}
use Rattle.foresight.specs.Ahead.{AheadState}
use Rattle.market.specs.OperatingOrder.{next_company}
use Rattle.totals.specs.LookBack.{Game}
use Rattle.foresight.proofs.round_ahead.RoundAhead.take_turn.Goals as goal

pub played-requires-clause-floated : goal.played-requires-clause-floated
played-requires-clause-floated c =
    let same : c.args.self.game ≡ c.self.inside.game.history =
    ap (λ (ahead : AheadState). ahead.game) (sym c.self.view_is) in
    next_has_floated c.floated_companies_in_order.ensures c.self.inside.game.history.events c.args.company
    (subst (λ (its : Game). next_company its.events ≡ Some c.args.company) same c.requires)

pub pass_turn-requires-clause-floated : goal.pass_turn-requires-clause-floated
pass_turn-requires-clause-floated c =
    let same : c.args.self.game ≡ c.self.inside.game.history =
    ap (λ (ahead : AheadState). ahead.game) (sym c.self.view_is) in
    next_has_floated c.floated_companies_in_order.ensures c.self.inside.game.history.events c.args.company
    (subst (λ (its : Game). next_company its.events ≡ Some c.args.company) same c.requires)
