use Rattle.map_tables.proofs.Turning.{side_turned}
use Rattle.map_tables.proofs.side.Side.turned.Goals as goal

pub returns : goal.returns
returns c = rw (c.number.ensures.value, c.turns.ensures.value) (side_turned c.args.self c.args.rotation)
