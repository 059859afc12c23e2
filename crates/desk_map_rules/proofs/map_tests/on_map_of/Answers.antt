-- The hexes of the code are those of the map.
use Rattle.std.proofs.Common.{◌∙◌, ap}
use Rattle.std.specs.List.{count_by}
use Rattle.map_tables.specs.OnMap.{tile_on}
use Rattle.board.specs.LayRules.{is_tile, on_map_of}
use Rattle.desk_map_rules.proofs.map_tests.on_map_of.Goals as goal

pub returns : goal.returns
unfolding on_map_of
returns c =
    c.count_of.ensures ∙ ap (count_by (λ hex. is_tile c.args.number (tile_on c.args.board.now.lays hex)))
    c.hexes_are_listed_once.ensures.all
