use Rattle.stock_round.proofs.ExchangeLemmas.{exchange_game}
use Rattle.stock_round.proofs.exchange.give_up_mohawk.Goals as goal

pub returns-clause-game : goal.returns-clause-game
returns-clause-game c =
    exchange_game c.args.history.now c.append.new.self c.args.seat c.exchange_source-from.result c.requires.may
    c.requires.at_table c.exchange_source-from.ensures c.in_ok-append.ensures.ok c.requires.game
