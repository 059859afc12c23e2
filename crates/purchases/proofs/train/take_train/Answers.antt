use Rattle.std.proofs.Common.{ℕ, sym, ap, subst, ◌∙◌}
use Rattle.events.specs.declared.event.Event.TheVariants as event
use Rattle.totals.specs.LookBack.{Game, with_event}
use Rattle.purchases.proofs.TrainLemmas.{train_sound}
use Rattle.history.specs.Sound.{IsSound}
use Rattle.purchases.specs.Train.{with_trade}
use Rattle.purchases.proofs.train.take_train.Goals as goal

pub close_bop-requires : goal.close_bop-requires
close_bop-requires c =
    let purchase = c.args.purchase in
    let company = c.args.company in
    subst IsSound
    (sym (c.in_ok-append.ensures.ok
    ∙ ap (λ (game : Game). with_event game (event.Train company purchase.kind purchase.from c.price.result))
    c.in_ok-trade_in.ensures
    ∙ ap (λ (price : ℕ). with_event (with_trade c.args.history.now company purchase.trade_in)
    (event.Train company purchase.kind purchase.from price)) c.price.ensures.price))
    (train_sound c.args.history.now company purchase c.requires.may c.requires.sound)
