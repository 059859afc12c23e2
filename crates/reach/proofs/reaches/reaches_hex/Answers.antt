-- An end of a hex is marked exactly if a piece of it is reached.
use Rattle.reach.proofs.Pieces.{hex_marked, hex_reached}
use Rattle.reach.proofs.reaches.reaches_hex.Goals as goal

pub returns : goal.returns
returns g c =
    let position = g.N.Network.position c.args.network.now in
    let lawful = c.keeps_laws.ensures in
    let found = c.mark_reached.ensures in
    let marks = c.mark_reached.new.marks.marks in (
      λ marked. hex_reached position c.args.company lawful marks found.arrive found.tokens found.closed c.args.hex
          c.requires.own (c.has_end.ensures.0 marked),
      λ reached. c.has_end.ensures.1
          (hex_marked position c.args.company lawful marks found.arrive found.tokens found.closed c.args.hex
          c.requires.own reached),
    )
