-- What is marked at the end is what is reached.
use Rattle.std.proofs.Common.{refl}
use Rattle.reach.proofs.Reaching.{marked_reach}
use Rattle.reach.proofs.Taken.{taken_links}
use Rattle.reach.proofs.stops.reached_stops.Goals as goal

pub returns : goal.returns
returns g c =
    let position = g.N.Network.position c.args.network.now in
    let company = c.args.company in
    let lawful = c.keeps_laws.ensures in
    let marks = c.search.new.marks.marks in
    let taken = taken_links position company lawful marks in (
      record { stops = c.marked_stops.result; links = taken.0 },
      marked_reach position company lawful marks c.in-Ok.ensures.arrive c.in-Ok.ensures.tokens c.in-Ok.ensures.closed
          c.marked_stops.result taken.0 c.marked_stops.ensures.marked c.marked_stops.ensures.in_order taken.1,
      refl,
    )
