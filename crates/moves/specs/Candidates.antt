-- The candidates: each tile in each rotation on each hex, without SWAP and with it; and each hex
-- with each of its two stops for a token, or none. They are in the order of hex, tile, rotation and
-- SWAP, or of hex and stop.
use Rattle.std.specs.Prelude.{Bool, true, false, List, [], ◌∷◌, Option, Some, None}
use Rattle.std.specs.List.{flat_map}
use Rattle.map_tables.specs.Hex.{hexes}
use Rattle.map_tables.specs.Side.{rotations}
use Rattle.map_tables.specs.Tile.{tiles}
use Rattle.map_tables.specs.declared.hex.Hex.{Hex}
use Rattle.map_tables.specs.declared.lay.Lay.{Lay}
use Rattle.map_tables.specs.declared.place.Place.{Place}
use Rattle.map_tables.specs.declared.place.StopNumber.{StopNumber}
use Rattle.map_tables.specs.declared.place.StopNumber.TheVariants.{First, Second}
use Rattle.map_tables.specs.declared.side.Rotation.{Rotation}
use Rattle.map_tables.specs.declared.tiles.TileNo.{TileNo}

-- a tile on a hex, turned, its stops as they are or swapped
abbrev pub lay_of : Hex → TileNo → Rotation → Bool → Lay
lay_of hex tile rotation swap = record { hex = hex; tile = tile; rot = rotation; swap = swap }

-- without SWAP, and with it
abbrev pub lays_at : Hex → TileNo → Rotation → List Lay
lays_at hex tile rotation = flat_map (λ swap. lay_of hex tile rotation swap ∷ []) (false ∷ true ∷ [])

-- in all rotations
abbrev pub lays_of_tile : Hex → TileNo → List Lay
lays_of_tile hex tile = flat_map (lays_at hex tile) rotations

-- of all tiles
abbrev pub lays_on : Hex → List Lay
lays_on hex = flat_map (lays_of_tile hex) tiles

-- on all hexes
abbrev pub all_lays : List Lay
all_lays = flat_map lays_on hexes

-- a hex, or one of its stops
abbrev pub place_at : Hex → Option StopNumber → Place
place_at hex stop = record { hex = hex; stop = stop }

-- the places of a hex: itself, and its stops
abbrev pub places_in : Hex → List Place
places_in hex = flat_map (λ stop. place_at hex stop ∷ []) (None ∷ Some First ∷ Some Second ∷ [])

-- the places of all hexes
abbrev pub all_places : List Place
all_places = flat_map places_in hexes
