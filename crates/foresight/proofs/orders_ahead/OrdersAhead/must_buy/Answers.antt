use Rattle.std.proofs.Common.{◌↔◌, IsTrue, subst}
use Rattle.foresight.specs.Ahead.{OrdersState}
use Rattle.operating.specs.TurnEnd.{IsDue}
use Rattle.foresight.proofs.orders_ahead.OrdersAhead.must_buy.Goals as goal

pub returns-clause-due : goal.returns-clause-due
returns-clause-due c =
    subst (λ (orders : OrdersState). IsTrue c.in_ok-due.due ↔ IsDue orders.turn.game orders.by.company) c.self.view_is
    c.in_ok-due.ensures.due
