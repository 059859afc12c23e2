use Rattle.std.proofs.Common.{subst}
use Rattle.std.proofs.lemmas.Result.{IfOk-weaker}
use Rattle.foresight.specs.Ahead.{HasEnded, OrdersState}
use Rattle.page_lays.proofs.TurnLemmas.{presides}
use Rattle.page_lays.proofs.company_turns.push_turn_by.Goals as goal

pub turn_of-requires-clause-led : goal.turn_of-requires-clause-led
turn_of-requires-clause-led g c = presides _ c.args.by.president c.requires.led

pub returns : goal.returns
returns g c =
    IfOk-weaker c.finish.result _ _
    (λ new ended. record {
      turn = c.in_ok-turn.turn;
      its = record {
        orders = c.in_ok-orders.orders;
        led = c.requires.led;
        behind = c.in_ok-orders.ensures;
        told = c.in_ok-turn.ensures.told;
        ended = subst (λ (orders : OrdersState). HasEnded orders new) c.in_ok-turn.ensures.withheld ended;
      };
      added = c.in_ok-push.ensures.items;
    })
    c.finish.ensures
