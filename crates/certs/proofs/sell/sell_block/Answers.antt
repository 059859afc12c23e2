use Rattle.std.proofs.Common.{◌≤◌, ap, ◌∙◌, arith}
use Rattle.market.specs.Moves.{fallen}
use Rattle.totals.specs.LookBack.{Game}
use Rattle.certs.proofs.Games.{move_game}
use Rattle.certs.proofs.SaleAllowed.{block_small}
use Rattle.certs.proofs.Sales.{sold_game}
use Rattle.certs.specs.SaleAct.{with_president}
use Rattle.market.specs.Token.{token_moved}
use Rattle.certs.proofs.sell.sell_block.Goals as goal

pub overflow_cast-shares : goal.overflow_cast-shares
overflow_cast-shares c =
    let small : c.args.sale.shares ≤ 5 = block_small c.args.history.now c.args.seat c.args.sale c.requires.may
    c.requires.game.sound in omega arith

pub pay_for_block-requires : goal.pay_for_block-requires
pay_for_block-requires c =
    let small : c.args.sale.shares ≤ 5 = block_small c.args.history.now c.args.seat c.args.sale c.requires.may
    c.requires.game.sound in omega arith

pub returns-clause-after : goal.returns-clause-after
returns-clause-after c =
    c.in_ok-move_token_down.ensures
    ∙ ap (λ (game : Game). token_moved (fallen c.args.sale.shares) game c.args.sale.company)
    (c.in_ok-record_president.ensures
    ∙ ap (λ (game : Game). with_president game c.args.sale.company) c.in_ok-pay_for_block.ensures)

pub returns-clause-game : goal.returns-clause-game
returns-clause-game c =
    move_game (fallen c.args.sale.shares) c.record_president.new.history c.move_token_down.new.history
    c.args.sale.company c.in_ok-move_token_down.ensures
    (sold_game c.args.history.now c.pay_for_block.new.history c.record_president.new.history c.args.seat c.args.sale
    c.requires.at_table c.requires.may c.requires.game c.in_ok-pay_for_block.ensures
    c.in_ok-record_president.ensures)
