-- A stop is marked exactly if it is reached.
use Rattle.reach.proofs.Reaching.{stop_marked, stop_reached}
use Rattle.reach.proofs.reaches.reaches_stop.Goals as goal

pub returns : goal.returns
returns g c =
    let position = g.N.Network.position c.args.network.now in
    let lawful = c.keeps_laws.ensures in
    let found = c.mark_reached.ensures in
    let marks = c.mark_reached.new.marks.marks in (
      λ marked. stop_reached position c.args.company lawful marks found.arrive found.tokens found.closed c.args.stop
          (c.has_stop.ensures.0 marked),
      λ reached. c.has_stop.ensures.1
          (stop_marked position c.args.company lawful marks found.arrive found.tokens found.closed c.args.stop
          reached),
    )
