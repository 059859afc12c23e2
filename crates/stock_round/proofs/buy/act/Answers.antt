use Rattle.certs.proofs.Succession.{president_game}
use Rattle.stock_round.proofs.buy.act.Goals as goal

pub record_float-requires : goal.record_float-requires
record_float-requires c =
    president_game c.pay_for_share.new.history c.record_president.new.history c.args.company
    c.in_ok-record_president.ensures c.in_ok-pay_for_share.ensures.game
