use Rattle.std.proofs.Common.{ap, ◌∙◌}
use Rattle.events.specs.declared.event.Event.TheVariants.{Sold}
use Rattle.totals.specs.LookBack.{Game, with_event}
use Rattle.privates.proofs.Sales.{gift_underway}
use Rattle.tables.specs.declared.roster.Private.TheVariants.{SchuylkillValley}
use Rattle.privates.proofs.closing.give_away.Goals as goal

pub returns-clause-underway : goal.returns-clause-underway
returns-clause-underway c =
    gift_underway c.args.history.now c.append-2.new.self c.args.seat c.requires.unsold c.requires.at_table
    (c.in_ok-append-2.ensures.ok ∙ ap (λ (game : Game). with_event game (Sold SchuylkillValley c.args.seat 0))
    c.in_ok-append.ensures.ok) c.requires.underway
