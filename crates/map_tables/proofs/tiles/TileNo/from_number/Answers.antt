use Rattle.std.proofs.Common.{◌∙◌, ◌==◌, rules, tests}
use Rattle.std.proofs.lemmas.Iterator.{YieldsList-from_slice}
use Rattle.std.proofs.lemmas.Iterator.Search.{find_from_yields_List}
use Rattle.map_tables.specs.Tile.{tiles, number_of_tile, tile_numbered}
use Rattle.map_tables.proofs.tiles.TileNo.from_number.Goals as goal

pub returns : goal.returns
unfolding tiles tile_numbered
returns c =
    let number = c.args.number in
    c.copied.ensures ∙ find_from_yields_List (λ tile. number_of_tile tile == number) _ _ c.find.result
    c.find.ensures.ran (YieldsList-from_slice tiles cc) (λ x b q k. search (rules, tests))
