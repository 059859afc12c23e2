use Rattle.certs.proofs.Dividends.{dividend_recorded_game}
use Rattle.certs.proofs.dividend.pay_to.Goals as goal

pub returns-clause-game : goal.returns-clause-game
returns-clause-game c =
    dividend_recorded_game c.args.history.now c.append.new.self c.record_broken.new.self c.args.company c.args.holder
    c.args.amount c.requires.party c.in_ok-append.ensures.ok c.in_ok-record_broken.ensures.ok c.requires.game
