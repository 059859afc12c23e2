-- The links that end at the stop: those of the hex that names it, and those of the other.
use Rattle.std.proofs.Common.{◌≡◌, Some, None, true, false, sym, ◌∙◌}
use Rattle.map_tables.specs.declared.track.TrackEnd.TheVariants.{Stop as AtStop}
use Rattle.reach.specs.Search.{twin_of}
use Rattle.reach.specs.Walk.{spot_at}
use Rattle.reach.proofs.Looking.{goes_on_in, goes_on_in_both, own_hex_named, stop_enters, twin_joined}
use Rattle.reach.proofs.Marking.{can_still, spreads_fewer, spreads_none, spreads_on}
use Rattle.reach.proofs.search.look_from_stop.Goals as goal

pub follow_from-requires-clause-may : goal.follow_from-requires-clause-may
follow_from-requires-clause-may g c =
    stop_enters (g.N.Network.position c.args.network.now) c.args.company c.args.marks.now.marks c.args.stop
    c.requires.arrived
    (λ full. let is : true ≡ false = sym (c.full.ensures.1 full) ∙ c.if-full.false in cc)
    c.args.stop.hex (own_hex_named c.args.stop c.requires.arrived.0)

pub follow_from-requires-in-Some-clause-may : goal.follow_from-requires-in-Some-clause-may
follow_from-requires-in-Some-clause-may g c =
    let position = g.N.Network.position c.args.network.now in
    let stop = c.args.stop in
    let twin : twin_of stop.hex ≡ Some c.in-Some.hex = sym c.twin.ensures ∙ c.in-Some.is in
    can_still position c.args.company _ _ c.in_ok-follow_from.ensures.kept (spot_at c.in-Some.hex (AtStop stop.number))
    (stop_enters position c.args.company c.args.marks.now.marks stop c.requires.arrived
    (λ full. let is : true ≡ false = sym (c.full.ensures.1 full) ∙ c.if-full.false in cc)
    c.in-Some.hex (twin_joined stop.hex c.in-Some.hex twin))

pub returns-in-Some : goal.returns-in-Some
returns-in-Some g c =
    let position = g.N.Network.position c.args.network.now in
    let stop = c.args.stop in
    let twin : twin_of stop.hex ≡ Some c.in-Some.hex = sym c.twin.ensures ∙ c.in-Some.is in
    spreads_on position c.args.company _ _ _ _ _ _ _ _ _ _ _ _ c.in_ok-follow_from.ensures c.in_ok-follow_from-2.ensures
    (λ step is. goes_on_in_both position c.args.company stop c.requires.arrived.0 c.in-Some.hex twin step is.0 is.1)

pub returns : goal.returns
returns g c =
    let position = g.N.Network.position c.args.network.now in
    let stop = c.args.stop in
    let none : twin_of stop.hex ≡ None = sym c.twin.ensures ∙ c.in_default.is in
    spreads_fewer position c.args.company _ _ _ _ _ _ _ _ c.in_ok-follow_from.ensures
    (λ step is. goes_on_in position c.args.company stop c.requires.arrived.0 none step is.0 is.1)

pub returns-then-full : goal.returns-then-full
returns-then-full g c =
    spreads_none (g.N.Network.position c.args.network.now) c.args.company _ _ _ _
    (λ step is. is.1.may_pass (c.full.ensures.0 c.if-full.true))
