-- A TRAIN leads where its purchase does, after what the company withholds by itself.
use Rattle.std.proofs.Common.{◌≡◌, None, sym, ap, ◌∙◌, subst}
use Rattle.events.specs.declared.event.Event.TheVariants.{Ruled}
use Rattle.events.specs.declared.ruling.Ruling.TheVariants.{Obeyed}
use Rattle.forced_purchase.specs.declared.operator.Operator.{Operator}
use Rattle.operating.specs.CompanyOrders.{OrderLeads}
use Rattle.operating.specs.Pay.{withheld_if_unpaid}
use Rattle.operating.specs.Train.{after_buying, train_ruled}
use Rattle.operating.specs.TurnState.{TurnState, line_recorded, turn_state}
use Rattle.order_grammar.specs.declared.order.Order.{Order}
use Rattle.order_grammar.specs.declared.order.Order.TheVariants as order
use Rattle.order_grammar.specs.declared.order.TrainSource.{TrainSource}
use Rattle.order_grammar.specs.declared.play.PlayOrder.TheVariants.{BuyTrain}
use Rattle.order_grammar.specs.declared.play.PlayOrder.TheVariants as play
use Rattle.purchases.specs.Train.{after_train}
use Rattle.purchases.specs.Train.{purchase_of, train_judgement}
use Rattle.purchases.specs.declared.train.TrainPurchase.{TrainPurchase}
use Rattle.sheets.specs.Part.{Numbered}
use Rattle.tables.specs.declared.rolling_stock.Kind.{Kind}
use Rattle.totals.specs.LookBack.{Game, with_event}

-- a TRAIN that breaks no rule leads where its purchase does
pub bought_steps : (by : Operator) (turn : TurnState) (line : Numbered) (kind : Kind) (from : TrainSource)
    (purchase : TrainPurchase) (its : Order) (ruled new : Game) → purchase ≡ purchase_of kind from
    → its ≡ order.Play (BuyTrain kind from) → train_judgement turn.game by.company purchase ≡ None
    → ruled ≡ with_event turn.game (Ruled by.president line.number (Obeyed line.condition its))
    → new ≡ after_train ruled by.company purchase → turn_state new turn.progress ≡ after_buying by turn line kind from
bought_steps by turn line kind from purchase its ruled new is_purchase is_its none is_ruled is_new =
    let ordered : TrainPurchase = purchase_of kind from in
    let allowed : train_judgement turn.game by.company ordered ≡ None =
    ap (train_judgement turn.game by.company) (sym is_purchase) ∙ none in
    ap (λ (game : Game). turn_state game turn.progress)
    (is_new ∙ ap (λ (game : Game). after_train game by.company purchase) is_ruled)
    ∙ ap (λ (one : Order). turn_state (after_train (line_recorded by turn line
    (Obeyed line.condition one)).game by.company
    purchase) turn.progress) is_its
    ∙ ap (λ (one : TrainPurchase). train_ruled by turn line (order.Play (BuyTrain kind from)) one None) is_purchase
    ∙ ap (train_ruled by turn line (order.Play (BuyTrain kind from)) ordered) (sym allowed)

-- a TRAIN line, from what the company withholds by itself and what then becomes of the line
pub train_leads : (by : Operator) (turn paid : TurnState) (line : Numbered) (its : Order) (kind : Kind)
    (from : TrainSource) (new : TurnState) → its ≡ order.Play (play.BuyTrain kind from) → paid ≡ withheld_if_unpaid by.company turn
    → new ≡ after_buying by paid line kind from → OrderLeads by turn line its new
train_leads by turn paid line its kind from new is is_paid ruled =
    subst (λ (o : Order). OrderLeads by turn line o new) (sym is)
    (subst (λ (t : TurnState). new ≡ after_buying by t line kind from) is_paid ruled)

-- a TRAIN line, where what the company withholds by itself leaves whose turn it is
pub train_leads_on :
    (by same : Operator) (turn paid : TurnState) (line : Numbered) (its : Order) (kind : Kind) (from : TrainSource)
    (new : TurnState) →
    its ≡ order.Play (play.BuyTrain kind from) → same ≡ by → paid ≡ withheld_if_unpaid by.company turn
    → new ≡ after_buying same paid line kind from →
    OrderLeads by turn line its new
train_leads_on by same turn paid line its kind from new is is_by is_paid ruled =
    train_leads by turn paid line its kind from new is is_paid
    (subst (λ (b : Operator). new ≡ after_buying b paid line kind from) is_by ruled)
