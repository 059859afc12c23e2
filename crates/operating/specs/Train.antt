-- TRAIN: a company buys a train, from the bank, the pool or another company. Its rules are those of
-- a purchase (`purchases: train_purchase_rules`), and so is what it brings, a new phase above all
-- (`purchases: after_train`). It leaves the turn as far as it has come.
use Rattle.std.specs.Prelude.{Option, option_map}
use Rattle.events.specs.declared.ruling.Refusal.TheVariants as refusal
use Rattle.events.specs.declared.ruling.TrainRule.{TrainRule}
use Rattle.forced_purchase.specs.declared.operator.Operator.{Operator}
use Rattle.operating.specs.TurnState.{TurnState, turn_state, ruled}
use Rattle.order_grammar.specs.declared.order.Order.{Order}
use Rattle.order_grammar.specs.declared.order.Order.TheVariants as order
use Rattle.order_grammar.specs.declared.order.TrainSource.{TrainSource}
use Rattle.order_grammar.specs.declared.play.PlayOrder.TheVariants as play
use Rattle.purchases.specs.Train.{after_train}
use Rattle.purchases.specs.Train.{purchase_of, train_judgement}
use Rattle.purchases.specs.declared.train.TrainPurchase.{TrainPurchase}
use Rattle.sheets.specs.Part.{Numbered}
use Rattle.tables.specs.declared.rolling_stock.Kind.{Kind}

-- after a TRAIN in this line that orders this purchase, with the rule that refuses it, if one does
abbrev pub train_ruled : Operator → TurnState → Numbered → Order → TrainPurchase → Option TrainRule → TurnState
train_ruled by turn line order purchase broken = ruled by turn line order (option_map refusal.Train broken)
    (λ (after : TurnState). turn_state (after_train after.game by.company purchase) after.progress)

-- after a TRAIN in this line
abbrev pub after_buying : Operator → TurnState → Numbered → Kind → TrainSource → TurnState
after_buying by turn line kind from =
    train_ruled by turn line (order.Play (play.BuyTrain kind from)) (purchase_of kind from)
    (train_judgement turn.game by.company (purchase_of kind from))
