-- The game as it stands is the one that is judged.
use Rattle.std.proofs.Common.{sym, ap, ◌∙◌}
use Rattle.order_grammar.specs.declared.order.Order.TheVariants.{Play}
use Rattle.order_grammar.specs.declared.play.PlayOrder.{PlayOrder}
use Rattle.order_grammar.specs.declared.play.PlayOrder.TheVariants.{BuyPrivate, Bid}
use Rattle.privates.specs.Turn.{opening_judgement}
use Rattle.totals.specs.LookBack.{Game}
use Rattle.privates.proofs.turn.judge.Goals as goal

pub returns-in-BuyPrivate : goal.returns-in-BuyPrivate
returns-in-BuyPrivate c =
    let order = Play (BuyPrivate c.in-BuyPrivate.private) in
    c.judge_purchase.ensures
    ∙ ap (λ (game : Game). opening_judgement game.seats game.events c.args.seat c.args.turn_used order)
    c.now-now.ensures
    ∙ ap (λ (order : PlayOrder). opening_judgement c.args.history.now.seats c.args.history.now.events c.args.seat
    c.args.turn_used (Play order)) (sym c.in-BuyPrivate.is)

pub returns-in-Bid : goal.returns-in-Bid
returns-in-Bid c =
    let order = Play (Bid c.in-Bid.private c.in-Bid.amount) in
    c.judge_bid.ensures
    ∙ ap (λ (game : Game). opening_judgement game.seats game.events c.args.seat c.args.turn_used order)
    c.now-now.ensures
    ∙ ap (λ (order : PlayOrder). opening_judgement c.args.history.now.seats c.args.history.now.events c.args.seat
    c.args.turn_used (Play order)) (sym c.in-Bid.is)
