use Rattle.std.proofs.Common.{◌≡◌, true, is_none, refl, sym, ◌∙◌}
use Rattle.operating.proofs.TrainLemmas.{bought_steps}
use Rattle.purchases.proofs.Still.{same_judgement}
use Rattle.purchases.proofs.Recorded.{kept_all, recorded_obeyed}
use Rattle.operating.specs.TurnState.{turn_state}
use Rattle.order_grammar.specs.declared.order.Order.TheVariants.{Play}
use Rattle.order_grammar.specs.declared.play.PlayOrder.TheVariants.{BuyTrain}
use Rattle.sheets.specs.Part.{line_with}
use Rattle.operating.proofs.company_turn.CompanyTurn.rule_train.Goals as goal

pub buy_train-requires-clause-may : goal.buy_train-requires-clause-may
buy_train-requires-clause-may c =
    let none : is_none c.map-broken.result ≡ true = sym c.in_ok-record.ensures.obeyed ∙ c.if-branch.true in
    same_judgement c.args.self.now.history c.record.new.history c.args.self.now.by.president
    (line_with c.args.line (Play (BuyTrain c.args.kind c.args.from))) c.args.kind c.args.from c.args.self.now.by.company
    c.purchase_of-purchase.result
    (recorded_obeyed c.args.self.now.history c.record.new.history c.args.self.now.by.president
    (line_with c.args.line (Play (BuyTrain c.args.kind c.args.from))) (Play (BuyTrain c.args.kind c.args.from))
    c.map-broken.result (rw c.requires.is at c.in_ok-record.ensures.ruling) none)
    ∙ sym c.judge_purchase-rule.ensures
    ∙ kept_all c.judge_purchase-rule.result c.map-broken.result none c.map-broken.ensures.variant

pub returns-in_ok-buy_train-clause-turn : goal.returns-in_ok-buy_train-clause-turn
returns-in_ok-buy_train-clause-turn c =
    let none : is_none c.map-broken.result ≡ true = sym c.in_ok-record.ensures.obeyed ∙ c.if-branch.true in
    bought_steps c.args.self.now.by (turn_state c.args.self.now.history c.args.self.now.progress)
    (line_with c.args.line (Play (BuyTrain c.args.kind c.args.from))) c.args.kind c.args.from
    c.purchase_of-purchase.result (Play (BuyTrain c.args.kind c.args.from)) c.record.new.history c.buy_train.new.history
    c.purchase_of-purchase.ensures.purchase refl
    (sym c.judge_purchase-rule.ensures ∙ kept_all c.judge_purchase-rule.result c.map-broken.result none
    c.map-broken.ensures.variant)
    (recorded_obeyed c.args.self.now.history c.record.new.history c.args.self.now.by.president
    (line_with c.args.line (Play (BuyTrain c.args.kind c.args.from))) (Play (BuyTrain c.args.kind c.args.from))
    c.map-broken.result (rw c.requires.is at c.in_ok-record.ensures.ruling) none) c.in_ok-buy_train.ensures.after
