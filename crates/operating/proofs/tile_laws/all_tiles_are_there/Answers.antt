use Rattle.operating.proofs.Tiles.{lays_keep_tiles, others_keep_tiles, tiles_at_first, turns_keep_tiles}
use Rattle.operating.proofs.tile_laws.all_tiles_are_there.Goals as goal

pub returns-clause-first : goal.returns-clause-first
returns-clause-first c = tiles_at_first

pub returns-clause-others : goal.returns-clause-others
returns-clause-others c = others_keep_tiles

pub returns-clause-lays : goal.returns-clause-lays
returns-clause-lays c = lays_keep_tiles

pub returns-clause-turns : goal.returns-clause-turns
returns-clause-turns c = turns_keep_tiles
