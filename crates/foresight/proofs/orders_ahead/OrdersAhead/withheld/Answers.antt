use Rattle.std.proofs.Common.{◌≡◌, ◌<◌, ap, sym, subst, ◌∙◌}
use Rattle.forced_purchase.specs.declared.operator.Operator.{Operator}
use Rattle.operating.proofs.PayLemmas.{withheld_seats}
use Rattle.operating.proofs.StaysInOrder.{after_withholding}
use Rattle.operating.specs.CompanyTurn.{state}
use Rattle.operating.specs.TurnState.{TurnState}
use Rattle.foresight.proofs.orders_ahead.OrdersAhead.withheld.Goals as goal

pub invariant_of-result : goal.invariant_of-result
invariant_of-result c =
    let old = c.self.inside.turn in
    let new = c.withhold_if_unpaid.new.self in
    let seats : new.history.seats ≡ old.history.seats =
    ap (λ (turn : TurnState). turn.game.seats) c.in_ok-withhold_if_unpaid.ensures.turn
    ∙ withheld_seats old.by.company (state old) in (
      after_withholding old new c.in_ok-withhold_if_unpaid.ensures.turn c.in_ok-withhold_if_unpaid.ensures.order,
      seats ∙ c.self.invariant.1,
      subst (λ (by : Operator). by.president.0 < new.history.seats) (sym c.in_ok-withhold_if_unpaid.ensures.order.by)
          (subst (λ n. old.by.president.0 < n) (sym seats) c.self.invariant.2),
    )
