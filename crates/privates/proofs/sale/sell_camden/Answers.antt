use Rattle.std.proofs.Common.{List, ◌∙◌, ap}
use Rattle.events.specs.declared.event.Event.{Event}
use Rattle.events.specs.declared.event.Event.TheVariants.{Given}
use Rattle.totals.specs.LookBack.{Game, with_event, with_events}
use Rattle.privates.proofs.Sales.{ca_underway, two_more}
use Rattle.tables.specs.declared.roster.Company.TheVariants.{Pennsylvania}
use Rattle.privates.proofs.sale.sell_camden.Goals as goal

pub returns-clause-after : goal.returns-clause-after
returns-clause-after c =
    c.in_ok-append-2.ensures.ok
    ∙ ap (λ (game : Game). with_event game (Given Pennsylvania c.args.buyer 1)) c.in_ok-append.ensures.ok
    ∙ ap (λ (events : List Event). with_events c.args.history.now events) (two_more c.args.history.now.events _ _)

pub returns-clause-underway : goal.returns-clause-underway
returns-clause-underway c =
    ca_underway c.args.history.now c.append-2.new.self c.args.buyer c.args.price c.requires.may c.requires.at_table
    (c.in_ok-append-2.ensures.ok ∙ ap (λ (game : Game). with_event game (Given Pennsylvania c.args.buyer 1))
    c.in_ok-append.ensures.ok) c.requires.underway
