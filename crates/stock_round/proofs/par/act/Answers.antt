use Rattle.std.proofs.Common.{ℕ, ◌*◌, ap, ◌∙◌}
use Rattle.events.specs.declared.event.Event.TheVariants as event
use Rattle.totals.specs.LookBack.{Game, with_event}
use Rattle.order_grammar.specs.declared.order.ShareSource.TheVariants.{InitialOffering}
use Rattle.stock_round.proofs.ParLemmas.{start_game}
use Rattle.stock_round.proofs.par.act.Goals as goal

pub returns-clause-game : goal.returns-clause-game
returns-clause-game c =
    start_game c.args.history.now c.append-3.new.self c.args.seat c.args.company c.args.price
    (c.from.result * c.args.price) c.requires.may c.requires.at_table
    (ap (λ (n : ℕ). n * c.args.price) c.from.ensures)
    (c.in_ok-append-3.ensures.ok
    ∙ ap (λ (game : Game). with_event game (event.President c.args.company c.args.seat))
    (c.in_ok-append-2.ensures.ok ∙ ap (λ (game : Game). with_event game
    (event.Bought c.args.company c.args.seat 2 InitialOffering (c.from.result * c.args.price)))
    c.in_ok-append.ensures.ok))
    c.requires.game
