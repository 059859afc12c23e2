use Rattle.std.proofs.Common.{◌≡◌, [], subst}
use Rattle.std.specs.Prelude.{MatchOption}
use Rattle.totals.proofs.Lent.{are_lent}
use Rattle.totals.specs.LookBack.{Game}
use Rattle.totals.specs.Totals.{AreTotalsOf}
use Rattle.totals.proofs.look_back.GameView.totals.Goals as goal

pub returns-clause-totals : goal.returns-clause-totals
returns-clause-totals c =
    subst (λ (game : Game). MatchOption c.self.inside.totals (game.events ≡ [])
    (λ totals. AreTotalsOf totals.now game.events)) c.self.view_is
    (are_lent c.self.inside.totals c.self.inside.events.now c.self.invariant.1 c.self.invariant.2)
