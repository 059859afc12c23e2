use Rattle.stock_round.proofs.BuyLemmas.{purchase_game}
use Rattle.stock_round.proofs.buy.pay_for_share.Goals as goal

pub returns-clause-game : goal.returns-clause-game
returns-clause-game c =
    purchase_game c.args.history.now c.append.new.self c.args.seat c.args.company c.args.from
    c.share_cost-price.result c.requires.may c.requires.at_table c.share_cost-price.ensures.price
    c.in_ok-append.ensures.ok c.requires.game
