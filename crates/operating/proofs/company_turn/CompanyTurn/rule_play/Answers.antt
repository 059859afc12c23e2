use Rattle.std.proofs.Common.{ap, subst, sym, ◌∙◌}
use Rattle.std.specs.Global.{Global}
use Rattle.std.specs.Prelude.{Box}
use Rattle.board_state.specs.MapState.{MapState}
use Rattle.operating.proofs.StaysInOrder.{after_withholding}
use Rattle.operating.proofs.TrainLemmas.{train_leads_on}
use Rattle.operating.specs.CompanyTurn.{state}
use Rattle.operating.specs.MapState.{IsPrefix}
use Rattle.order_grammar.specs.declared.order.Order.TheVariants.{Play}
use Rattle.turns.specs.Small.{IsSmallOrder}
use Rattle.sheets.specs.Part.{line_with}
use Rattle.operating.proofs.company_turn.CompanyTurn.rule_play.Goals as goal

pub rule_train-requires-clause-small : goal.rule_train-requires-clause-small
rule_train-requires-clause-small c = subst IsSmallOrder (c.requires.is ∙ ap Play c.in-BuyTrain.is) c.requires.small

pub rule_train-requires-clause-order : goal.rule_train-requires-clause-order
rule_train-requires-clause-order c =
    after_withholding c.args.self.now c.withhold_if_unpaid.new.self c.in_ok-withhold_if_unpaid-in-BuyTrain.ensures.turn
    c.in_ok-withhold_if_unpaid-in-BuyTrain.ensures.order

pub returns-in_ok-rule_train-in-BuyTrain-clause-turn :
    goal.returns-in_ok-rule_train-in-BuyTrain-clause-turn
returns-in_ok-rule_train-in-BuyTrain-clause-turn c =
    train_leads_on c.args.self.now.by c.withhold_if_unpaid.new.self.by (state c.args.self.now)
    (state c.withhold_if_unpaid.new.self) (line_with c.args.line c.args.order.now) c.args.order.now _ _ (state c.rule_train.new.self) (c.requires.is ∙ ap Play c.in-BuyTrain.is)
    c.in_ok-withhold_if_unpaid-in-BuyTrain.ensures.order.by c.in_ok-withhold_if_unpaid-in-BuyTrain.ensures.turn
    c.in_ok-rule_train-in-BuyTrain.ensures.turn

pub returns-in_ok-rule_train-in-BuyTrain-clause-order :
    goal.returns-in_ok-rule_train-in-BuyTrain-clause-order
returns-in_ok-rule_train-in-BuyTrain-clause-order c =
    let withheld = c.in_ok-withhold_if_unpaid-in-BuyTrain.ensures in
    let bought = c.in_ok-rule_train-in-BuyTrain.ensures in
    record {
      by = bought.order.by ∙ withheld.order.by;
      round = bought.order.round ∙ withheld.order.round;
      sound = bought.order.sound;
      prefix = subst (λ (laid : MapState). IsPrefix laid c.args.self.now.history.events)
          (sym (ap (λ (board : Box MapState Global). board.value) (bought.board ∙ withheld.board)))
          c.requires.order.prefix;
    }
