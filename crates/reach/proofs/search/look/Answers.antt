-- A stop is looked at as a stop; from a side the walk goes on across the border, if it may.
use Rattle.std.proofs.Common.{◌≡◌, Some, IfSome, inr, sym, ◌∙◌, subst}
use Rattle.reach.specs.Position.{IsFull}
use Rattle.reach.specs.Walk.{stop_of, across, entered_at}
use Rattle.reach.proofs.Following.{enter_joined}
use Rattle.reach.proofs.Looking.{goes_across, goes_nowhere, goes_on_at}
use Rattle.reach.proofs.Marking.{spreads_fewer, spreads_none}
use Rattle.reach.proofs.Reaching.{marked_stop}
use Rattle.reach.proofs.Spots.{back}
use Rattle.reach.proofs.search.look.Goals as goal

pub look_from_stop-requires-clause-arrived : goal.look_from_stop-requires-clause-arrived
look_from_stop-requires-clause-arrived g c =
    marked_stop c.args.marks.now.marks c.args.from c.in-Some.stop (sym c.stop.ensures ∙ c.in-Some.is) c.requires.arrived

pub returns-in-Some : goal.returns-in-Some
returns-in-Some g c =
    let position = g.N.Network.position c.args.network.now in
    let stop_is : stop_of c.args.from ≡ Some c.in-Some.stop = sym c.stop.ensures ∙ c.in-Some.is in
    spreads_fewer position c.args.company _ _ _ _ _ _ _ _ c.in_ok-look_from_stop.ensures
    (λ step is. (is.0, goes_on_at position c.args.company c.args.from c.in-Some.stop stop_is (entered_at step) is.1))

pub follow_from-requires-clause-may : goal.follow_from-requires-clause-may
follow_from-requires-clause-may g c =
    let position = g.N.Network.position c.args.network.now in
    let at = c.in-Some-across.at in
    let crosses : across c.args.from ≡ Some at = sym c.across.ensures ∙ c.in-Some-across.is in
    enter_joined position c.args.company c.requires.lawful c.args.marks.now.marks c.args.from c.requires.arrived
    at.hex at.end (inr crosses)
    (subst (λ o. IfSome o (λ stop. ¬ IsFull position stop c.args.company))
    (sym (back position c.requires.lawful c.args.from at crosses).1) tt)

pub returns-in-Some-across : goal.returns-in-Some-across
returns-in-Some-across g c =
    let position = g.N.Network.position c.args.network.now in
    spreads_fewer position c.args.company _ _ _ _ _ _ _ _ c.in_ok-follow_from.ensures
    (λ step is. goes_across position c.args.company c.args.from c.in-Some-across.at
    (sym c.stop.ensures ∙ c.in_default.is) (sym c.across.ensures ∙ c.in-Some-across.is) step is.0 is.1)

pub returns : goal.returns
returns g c =
    let position = g.N.Network.position c.args.network.now in
    spreads_none position c.args.company _ _ _ _
    (λ step is. goes_nowhere position c.args.company c.args.from (entered_at step)
    (sym c.stop.ensures ∙ c.in_default.is) (sym c.across.ensures ∙ c.in_default-across.is) is.1)
