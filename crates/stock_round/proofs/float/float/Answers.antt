use Rattle.certs.proofs.Dividends.{broken_game}
use Rattle.stock_round.proofs.FloatLemmas.{float_game, float_led}
use Rattle.stock_round.proofs.float.float.Goals as goal

pub par_value-amount-requires : goal.par_value-amount-requires
par_value-amount-requires c =
    float_led c.args.history.now c.args.company c.requires.ready c.requires.game.sound

pub returns-clause-game : goal.returns-clause-game
returns-clause-game c =
    broken_game c.append.new.self c.record_broken.new.self c.in_ok-record_broken.ensures.ok
    (float_game c.args.history.now c.append.new.self c.args.company _ c.requires.ready c.in_ok-append.ensures.ok
    c.requires.game)
