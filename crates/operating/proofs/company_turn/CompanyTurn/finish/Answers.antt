-- A turn ends by what the company withholds by itself, and by the train that it must buy.
use Rattle.std.proofs.Common.{subst}
use Rattle.forced_purchase.specs.declared.operator.Operator.{Operator}
use Rattle.operating.proofs.PrefixStays.{end_prefix}
use Rattle.operating.proofs.StaysInOrder.{after_withholding}
use Rattle.operating.specs.CompanyTurn.{state}
use Rattle.operating.specs.Pay.{withheld_if_unpaid}
use Rattle.operating.specs.TurnEnd.{EndLeads}
use Rattle.operating.specs.TurnState.{TurnState}
use Rattle.operating.proofs.company_turn.CompanyTurn.finish.Goals as goal

pub end-requires-clause-order : goal.end-requires-clause-order
end-requires-clause-order c =
    after_withholding c.args.self c.withhold_if_unpaid.new.self c.in_ok-withhold_if_unpaid.ensures.turn
    c.in_ok-withhold_if_unpaid.ensures.order

pub returns-clause-turn : goal.returns-clause-turn
returns-clause-turn c =
    let old = c.args.self in
    subst (λ (by : Operator). EndLeads by c.args.raises.items (withheld_if_unpaid old.by.company (state old)).game
    c.end.new.self.history) c.in_ok-withhold_if_unpaid.ensures.order.by
    (subst (λ (turn : TurnState). EndLeads c.withhold_if_unpaid.new.self.by c.args.raises.items turn.game
    c.end.new.self.history) c.in_ok-withhold_if_unpaid.ensures.turn c.in_ok-end.ensures.turn)

pub returns-clause-laid : goal.returns-clause-laid
returns-clause-laid c =
    record {
      sound = c.in_ok-end.ensures.sound;
      prefix = end_prefix c.withhold_if_unpaid.new.self.by c.args.raises.items c.end.new.self.board.value
          c.withhold_if_unpaid.new.self.history c.end.new.self.history c.in_ok-end.ensures.turn
          c.in_ok-end.ensures.prefix;
    }
