-- What is marked at the end is what is reached.
use Rattle.std.proofs.Common.{◌≡◌, List, [], sym, ◌∙◌, subst}
use Rattle.map_tables.specs.declared.track.Link.{Link}
use Rattle.reach.specs.Position.{IsAmong}
use Rattle.reach.specs.Reached.{AreSortedBy, stop_order}
use Rattle.reach.specs.Search.{AreMarkedStops, KeepsNone}
use Rattle.reach.proofs.Reaching.{marked_reach}
use Rattle.reach.proofs.reach_found.reached.Goals as goal

-- nothing is among an empty list
none_among : (links : List Link) → links ≡ [] → KeepsNone (λ link. IsAmong link links)
none_among links none link among = subst (λ ls. IsAmong link ls) none among

pub returns : goal.returns
returns g c =
    let position = g.N.Network.position c.args.network.now in
    let marks = c.search.new.marks.marks in
    let found = c.in_ok-search.ensures in
    let copied : c.in_ok-stops.stops.items ≡ c.marked_stops.result =
    c.in_ok-stops.ensures.items_if_clones_equal (λ x y same. same) ∙ c.stops.ensures.value in
    marked_reach position c.args.company c.keeps_laws.ensures marks found.arrive found.tokens found.closed
    c.in_ok-stops.stops.items c.search.new.keeper.items
    (subst (λ ls. AreMarkedStops marks ls) (sym copied) c.marked_stops.ensures.marked)
    (subst (λ ls. AreSortedBy stop_order ls) (sym copied) c.marked_stops.ensures.in_order)
    (found.taken (none_among c.in_ok-links.links.items c.in_ok-links.ensures.items))
