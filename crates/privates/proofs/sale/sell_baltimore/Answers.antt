use Rattle.std.proofs.Common.{◌≡◌, ℕ, ◌++◌, ◌∷◌, List, [], ◌∙◌, ap}
use Rattle.events.specs.declared.event.Event.{Event}
use Rattle.events.specs.declared.event.Event.TheVariants.{Given, Par, President, Sold}
use Rattle.totals.specs.LookBack.{Game, with_event, with_events}
use Rattle.privates.proofs.Sales.{bop_underway, four_more}
use Rattle.privates.specs.ParOfBo.{par_set_by}
use Rattle.tables.specs.declared.roster.Company.TheVariants.{BaltimoreOhio}
use Rattle.tables.specs.declared.roster.Private.TheVariants as private
use Rattle.privates.proofs.sale.sell_baltimore.Goals as goal

pub returns-clause-after : goal.returns-clause-after
returns-clause-after c =
    let game = c.args.history.now in
    let par : c.par_set_by-par.result ≡ par_set_by game.events c.args.buyer =
    c.par_set_by-par.ensures.par ∙ ap (λ (game : Game). par_set_by game.events c.args.buyer) c.now.ensures in
    c.in_ok-append-4.ensures.ok
    ∙ ap (λ (game : Game). with_event game (President BaltimoreOhio c.args.buyer))
    (c.in_ok-append-3.ensures.ok
    ∙ ap (λ (game : Game). with_event game (Given BaltimoreOhio c.args.buyer 2))
    (c.in_ok-append-2.ensures.ok ∙ ap (λ (game : Game). with_event game (Par BaltimoreOhio c.par_set_by-par.result))
    c.in_ok-append.ensures.ok))
    ∙ ap (λ (events : List Event). with_events game events)
    (four_more game.events _ _ _ _
    ∙ ap (λ (price : ℕ). game.events ++ Sold private.BaltimoreOhio c.args.buyer c.args.price
    ∷ Par BaltimoreOhio price ∷ Given BaltimoreOhio c.args.buyer 2 ∷ President BaltimoreOhio c.args.buyer ∷ []) par)

pub returns-clause-underway : goal.returns-clause-underway
returns-clause-underway c =
    let par : c.par_set_by-par.result ≡ par_set_by c.args.history.now.events c.args.buyer =
    c.par_set_by-par.ensures.par ∙ ap (λ (game : Game). par_set_by game.events c.args.buyer) c.now.ensures in
    bop_underway c.args.history.now c.append-4.new.self c.args.buyer c.args.price c.par_set_by-par.result
    c.requires.may c.requires.at_table par
    (c.in_ok-append-4.ensures.ok
    ∙ ap (λ (game : Game). with_event game (President BaltimoreOhio c.args.buyer))
    (c.in_ok-append-3.ensures.ok
    ∙ ap (λ (game : Game). with_event game (Given BaltimoreOhio c.args.buyer 2))
    (c.in_ok-append-2.ensures.ok ∙ ap (λ (game : Game). with_event game (Par BaltimoreOhio c.par_set_by-par.result))
    c.in_ok-append.ensures.ok)))
    c.requires.underway
