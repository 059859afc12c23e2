-- An order that runs no train leaves what the trains of the company have done in the turn.
use Rattle.std.proofs.Common.{◌≡◌, ℕ, Bool, true, false, if◌then◌else◌, Option, Some, None, Result, Ok, Err, ℤ, refl}
use Rattle.std.proofs.Common.{ap, ◌∙◌}
use Rattle.events.specs.declared.ruling.PayRule.{PayRule}
use Rattle.events.specs.declared.ruling.PrivateRule.{PrivateRule}
use Rattle.events.specs.declared.ruling.TrainRule.{TrainRule}
use Rattle.totals.specs.LookBack.{Game}
use Rattle.map_tables.specs.declared.rules.LayRule.{LayRule}
use Rattle.map_tables.specs.declared.rules.TokenRule.{TokenRule}
use Rattle.map_tables.specs.declared.lay.Lay.{Lay}
use Rattle.map_tables.specs.declared.place.Place.{Place}
use Rattle.operating.specs.Pay.{withheld}
use Rattle.certs.specs.Dividend.{paid_out}
use Rattle.operating.specs.Pay.{pay_judgement, pay_ruled, withhold_judgement}
use Rattle.operating.specs.Progress.{is_unpaid, pay_done}
use Rattle.operating.specs.TurnState.{TurnState, turn_state}
use Rattle.purchases.specs.Private.{private_judgement}
use Rattle.operating.specs.CompanyOrders.{OrderLeads}
use Rattle.operating.specs.Lay.{lay_answered}
use Rattle.operating.specs.Pay.{withheld_if_unpaid}
use Rattle.operating.specs.Private.{private_ruled}
use Rattle.operating.specs.Token.{token_answered}
use Rattle.operating.specs.Train.{train_ruled}
use Rattle.purchases.specs.Train.{purchase_of, train_judgement}
use Rattle.forced_purchase.specs.declared.operator.Operator.{Operator}
use Rattle.purchases.specs.declared.train.TrainPurchase.{TrainPurchase}
use Rattle.operating.specs.declared.completed_runs.Runs.{Runs}
use Rattle.order_grammar.specs.declared.order.Order.{Order}
use Rattle.order_grammar.specs.declared.order.Order.TheVariants as order
use Rattle.order_grammar.specs.declared.play.PlayOrder.TheVariants as play
use Rattle.sheets.specs.Part.{Numbered}
use Rattle.tables.specs.declared.roster.Company.{Company}
use Rattle.tables.specs.declared.roster.Private.{Private}

-- what the trains have done in a turn: whether the best has been run, and what is kept of the runs
abbrev pub did : TurnState → Bool × Runs
did turn = (turn.progress.best_run, turn.progress.runs)

-- an order runs no train
abbrev pub RunsNone : Order → Type 0
RunsNone (order.Run kind run) = ⊥
RunsNone (order.Play play.RunBest) = ⊥
RunsNone other = Unit

-- a LAY
after_lay :
    (by : Operator) (turn : TurnState) (line : Numbered) (lay : Lay) (answer : Result ℤ LayRule) →
    did (lay_answered by turn line lay answer) ≡ did turn
after_lay by turn line lay (Ok cost) = refl
after_lay by turn line lay (Err rule) = refl

-- a TOKEN
after_token :
    (by : Operator) (turn : TurnState) (line : Numbered) (place : Place) (answer : Result ℤ TokenRule) →
    did (token_answered by turn line place answer) ≡ did turn
after_token by turn line place (Ok cost) = refl
after_token by turn line place (Err rule) = refl

-- PAY or WITHHOLD, and what a company withholds by itself
after_pay :
    (by : Operator) (turn : TurnState) (line : Numbered) (its : Order) (rule : Option PayRule) (after : Game → Game) →
    did (pay_ruled by turn line its rule after) ≡ did turn
after_pay by turn line its None after = refl
after_pay by turn line its (Some rule) after = refl

after_withholding : (company : Company) (turn : TurnState) → did (withheld_if_unpaid company turn) ≡ did turn
after_withholding company turn =
    elim (is_unpaid turn.progress) as
    (λ (b : Bool). did (if b then turn_state (withheld turn.game company turn.progress.runs.revenue)
    (pay_done turn.progress) else turn) ≡ did turn) [
      | true ↦ refl
      | false ↦ refl
    ]

-- a TRAIN
after_train :
    (by : Operator) (turn : TurnState) (line : Numbered) (its : Order) (purchase : TrainPurchase) (rule : Option TrainRule) →
    did (train_ruled by turn line its purchase rule) ≡ did turn
after_train by turn line its purchase None = refl
after_train by turn line its purchase (Some rule) = refl

-- the purchase of a private
after_private :
    (by : Operator) (turn : TurnState) (line : Numbered) (private : Private) (price : ℕ) (rule : Option PrivateRule) →
    did (private_ruled by turn line private price rule) ≡ did turn
after_private by turn line private price None = refl
after_private by turn line private price (Some rule) = refl

-- what an order leaves that runs no train
pub after_other :
    (by : Operator) (turn : TurnState) (line : Numbered) (its : Order) (new : TurnState) → RunsNone its
    → OrderLeads by turn line its new →
    did new ≡ did turn
after_other by turn line (order.Run kind run) new none leads = absurd none
after_other by turn line (order.Play play.RunBest) new none leads = absurd none
after_other by turn line (order.Play (play.Lay lay)) new none leads = ap did leads.after ∙ after_lay by turn line lay leads.answer
after_other by turn line (order.Play (play.Token place)) new none leads =
    ap did leads.after ∙ after_token by turn line place leads.answer
after_other by turn line (order.Play play.Pay) new none leads =
    ap did leads ∙ after_pay by turn line (order.Play play.Pay) (pay_judgement turn.progress)
    (λ game. paid_out game by.company turn.progress.runs.revenue)
after_other by turn line (order.Play play.Withhold) new none leads =
    ap did leads ∙ after_pay by turn line (order.Play play.Withhold) (withhold_judgement turn.progress)
    (λ game. withheld game by.company turn.progress.runs.revenue)
after_other by turn line (order.Play (play.BuyTrain kind from)) new none leads =
    let paid = withheld_if_unpaid by.company turn in
    let purchase = purchase_of kind from in
    ap did leads
    ∙ after_train by paid line (order.Play (play.BuyTrain kind from)) purchase (train_judgement paid.game by.company purchase)
    ∙ after_withholding by.company turn
after_other by turn line (order.Play (play.BuyOwnedPrivate private price)) new none leads =
    ap did leads ∙ after_private by turn line private price (private_judgement turn.game by.company private price)
after_other by turn line other new none leads = ap did leads
