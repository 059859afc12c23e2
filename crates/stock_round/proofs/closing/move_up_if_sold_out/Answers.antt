use Rattle.certs.proofs.Games.{move_game}
use Rattle.market.specs.Moves.{up_of}
use Rattle.stock_round.proofs.closing.move_up_if_sold_out.Goals as goal

pub returns-clause-game : goal.returns-clause-game
returns-clause-game c =
    move_game up_of c.args.history.now c.move_token_up.new.history c.args.company c.in_ok-move_token_up.ensures c.requires
