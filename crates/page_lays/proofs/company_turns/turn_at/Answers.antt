use Rattle.std.proofs.Common.{◌↔◌, IsTrue, ap, subst, ◌∙◌}
use Rattle.desk_may.specs.OperatingLines.{train_rows_of}
use Rattle.forced_purchase.specs.declared.operator.Operator.{Operator}
use Rattle.foresight.specs.Ahead.{OrdersState, withheld_in}
use Rattle.operating.specs.TurnEnd.{IsDue}
use Rattle.totals.specs.LookBack.{Game}
use Rattle.page_lays.proofs.company_turns.turn_at.Goals as goal

pub returns-clause-told : goal.returns-clause-told
returns-clause-told g c =
    let orders : OrdersState = c.args.orders in
    record {
      by = c.by-by.ensures;
      moves = c.in_ok-map.ensures;
      privates = c.in_ok-head.ensures;
      trains = c.in_ok-trains.ensures
          ∙ ap (λ (game : Game). train_rows_of game c.by-by.result.company)
          (c.history.ensures.game ∙ ap (λ (its : OrdersState). its.turn.game) c.in_ok-orders.ensures)
          ∙ ap (λ (by : Operator). train_rows_of (withheld_in orders).turn.game by.company) c.by-by.ensures;
      earned = c.earned_in-earned.ensures;
      must_buy = subst (λ (its : OrdersState). IsTrue c.in_ok-orders-2.must_buy ↔ IsDue its.turn.game its.by.company)
          c.in_ok-orders.ensures c.in_ok-orders-2.ensures.due;
    }
