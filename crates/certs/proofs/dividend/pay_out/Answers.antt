use Rattle.market.specs.Moves.{right_of}
use Rattle.certs.proofs.Dividends.{paid_out_steps}
use Rattle.certs.proofs.Games.{move_game}
use Rattle.certs.proofs.dividend.pay_out.Goals as goal

pub returns-clause-after : goal.returns-clause-after
returns-clause-after c =
    paid_out_steps c.args.history.now c.pay_all.new.history c.move_token_right.new.history c.args.company
    c.args.revenue c.in_ok-pay_all.ensures.after c.in_ok-move_token_right.ensures

pub returns-clause-game : goal.returns-clause-game
returns-clause-game c =
    move_game right_of c.pay_all.new.history c.move_token_right.new.history c.args.company
    c.in_ok-move_token_right.ensures c.in_ok-pay_all.ensures.game
