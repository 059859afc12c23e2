-- The company buys, once its president has paid what it lacks, or the president is bankrupt.
use Rattle.std.proofs.Common.{◌≡◌, None, ap, sym, subst, ◌∙◌}
use Rattle.std.proofs.lemmas.Result.{on_ok_weaker}
use Rattle.totals.specs.LookBack.{Game}
use Rattle.forced_purchase.proofs.CheapestTrain.{forced_allowed}
use Rattle.forced_purchase.proofs.Steps.{bankrupt_then, bought_then}
use Rattle.forced_purchase.specs.Shortfall.{cheapest}
use Rattle.purchases.specs.Train.{train_judgement}
use Rattle.purchases.specs.declared.train.TrainPurchase.{TrainPurchase}
use Rattle.forced_purchase.proofs.forced.conclude.Goals as goal

pub aid-requires-clause-enough : goal.aid-requires-clause-enough
aid-requires-clause-enough c = sym c.falls_short.ensures ∙ c.if-falls_short.false

pub buy_train-requires-clause-may : goal.buy_train-requires-clause-may
buy_train-requires-clause-may c =
    subst (λ (purchase : TrainPurchase). train_judgement c.aid.new.history c.args.by.company purchase ≡ None)
    (sym (c.cheapest-purchase.ensures.purchase ∙ ap (λ (game : Game). cheapest game.events) c.now.ensures))
    (subst (λ (game : Game). train_judgement game c.args.by.company (cheapest c.args.history.now.events) ≡ None)
    (sym c.in_ok-aid.ensures.after) (forced_allowed c.args.by c.args.history.now c.requires.none))

pub returns-then-falls_short-clause-after : goal.returns-then-falls_short-clause-after
returns-then-falls_short-clause-after c =
    on_ok_weaker c.record_event.result (bankrupt_then c.args.by c.args.history.now c.record_event.new.self
    (sym c.falls_short.ensures ∙ c.if-falls_short.true)) c.record_event.ensures.ok

pub returns-clause-after : goal.returns-clause-after
returns-clause-after c =
    on_ok_weaker c.buy_train.result (bought_then c.args.by c.args.history.now c.aid.new.history c.buy_train.new.history
    c.cheapest-purchase.result (sym c.falls_short.ensures ∙ c.if-falls_short.false)
    (c.cheapest-purchase.ensures.purchase ∙ ap (λ (game : Game). cheapest game.events) c.now.ensures) c.in_ok-aid.ensures.after)
    c.buy_train.ensures.after
