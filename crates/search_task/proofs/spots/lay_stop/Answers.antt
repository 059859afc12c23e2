-- The stop is at its number.
use Rattle.map_tables.specs.declared.place.Stop.{Stop}
use Rattle.search_task.proofs.Laid.{numbered_next, numbered_stop}
use Rattle.search_task.proofs.spots.lay_stop.Goals as goal

pub returns : goal.returns
returns g c =
    let position = g.N.Network.position c.args.network.now in
    let stop : Stop = record { hex = c.at_index-hex.result; number = c.stop_numbered-number.result } in
    numbered_next position c.args.company c.args.stop c.args.nodes.now.items c.stop_node.result c.requires.before
    (numbered_stop position c.args.company c.args.stop c.stop_node.result stop c.requires.least c.at_index-hex.ensures
    c.stop_numbered-number.ensures c.stop_node.ensures.node c.stop_node.ensures.value)
