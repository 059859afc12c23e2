use Rattle.std.proofs.Common.{◌∙◌, ap}
use Rattle.forced_purchase.specs.declared.operator.Operator.{Operator}
use Rattle.page_lays.specs.Earned.{earned_by}
use Rattle.totals.specs.LookBack.{Game}
use Rattle.page_lays.proofs.earned.earned_in.Goals as goal

-- the game and the company are those of the orders
pub returns : goal.returns
returns c =
    c.earned_by.ensures
    ∙ ap (λ (game : Game). earned_by game c.by.result) (c.now.ensures ∙ c.history.ensures.game)
    ∙ ap (λ (by : Operator). earned_by c.args.orders.now.turn.game by) c.by.ensures
