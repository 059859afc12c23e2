-- The layers of a page by their numbers: eight of the whole page, then four of each hex. The cells of its tables follow.
use Rattle.std.specs.Prelude.{ℕ, ◌+◌, ◌*◌}
use Rattle.map_tables.specs.Hex.{index_of}
use Rattle.map_tables.specs.declared.hex.Hex.{Hex}
use Rattle.page_all.specs.declared.layers.HexLayer.{HexLayer}
use Rattle.page_all.specs.declared.layers.HexLayer.TheVariants.{Ground, Track, Stops, Words}
use Rattle.page_all.specs.declared.layers.Layer.{Layer}
use Rattle.page_all.specs.declared.layers.Layer.TheVariants.{Result, Lines, Sums, Runs, Turns, Chart, NewTiles, NewTokens}

-- the number of a layer of the whole page
abbrev pub number_of_layer : Layer → ℕ
number_of_layer Result = 0
number_of_layer Lines = 1
number_of_layer Sums = 2
number_of_layer Runs = 3
number_of_layer Turns = 4
number_of_layer Chart = 5
number_of_layer NewTiles = 6
number_of_layer NewTokens = 7

-- the place of a layer among those of its hex
abbrev pub place_of_layer : HexLayer → ℕ
place_of_layer Ground = 0
place_of_layer Track = 1
place_of_layer Stops = 2
place_of_layer Words = 3

-- the number of a layer of a hex
abbrev pub number_of_hex_layer : Hex → HexLayer → ℕ
number_of_hex_layer hex layer = 8 + 4 * index_of hex + place_of_layer layer
