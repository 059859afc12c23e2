-- The table of neighbours says of each side of each hex what the definition says.
use Rattle.std.proofs.Common.{◌≡◌, None, [], get_or, refl}
use Rattle.map_tables.specs.declared.border.TheConstants.{NEIGHBOURS}
use Rattle.map_tables.specs.declared.hex.Hex.{Hex}
use Rattle.map_tables.specs.declared.hex.Hex.TheVariants.{A9}
use Rattle.map_tables.specs.declared.side.Side.{Side}
use Rattle.map_tables.specs.declared.side.Side.TheVariants.{SouthWest, West, NorthWest, NorthEast, East, SouthEast}
use Rattle.map_tables.specs.Hex.{hexes, index_of, site_of, hex_at}
use Rattle.map_tables.specs.Side.{number_of}
use Rattle.map_tables.specs.Border.{adjacent, neighbour_of}

south_west_at : (hex : Hex) → get_or (get_or NEIGHBOURS (index_of hex) []) 0 None ≡ neighbour_of hex SouthWest
unfolding hexes index_of site_of hex_at adjacent neighbour_of
south_west_at A9 = refl
south_west_at _ = refl

west_at : (hex : Hex) → get_or (get_or NEIGHBOURS (index_of hex) []) 1 None ≡ neighbour_of hex West
unfolding hexes index_of site_of hex_at adjacent neighbour_of
west_at A9 = refl
west_at _ = refl

north_west_at : (hex : Hex) → get_or (get_or NEIGHBOURS (index_of hex) []) 2 None ≡ neighbour_of hex NorthWest
unfolding hexes index_of site_of hex_at adjacent neighbour_of
north_west_at A9 = refl
north_west_at _ = refl

north_east_at : (hex : Hex) → get_or (get_or NEIGHBOURS (index_of hex) []) 3 None ≡ neighbour_of hex NorthEast
unfolding hexes index_of site_of hex_at adjacent neighbour_of
north_east_at A9 = refl
north_east_at _ = refl

east_at : (hex : Hex) → get_or (get_or NEIGHBOURS (index_of hex) []) 4 None ≡ neighbour_of hex East
unfolding hexes index_of site_of hex_at adjacent neighbour_of
east_at A9 = refl
east_at _ = refl

south_east_at : (hex : Hex) → get_or (get_or NEIGHBOURS (index_of hex) []) 5 None ≡ neighbour_of hex SouthEast
unfolding hexes index_of site_of hex_at adjacent neighbour_of
south_east_at A9 = refl
south_east_at _ = refl

-- so the table has the neighbour of each hex at each side
pub neighbour_at :
    (hex : Hex) (side : Side) →
    get_or (get_or NEIGHBOURS (index_of hex) []) (number_of side) None ≡ neighbour_of hex side
neighbour_at hex SouthWest = south_west_at hex
neighbour_at hex West = west_at hex
neighbour_at hex NorthWest = north_west_at hex
neighbour_at hex NorthEast = north_east_at hex
neighbour_at hex East = east_at hex
neighbour_at hex SouthEast = south_east_at hex
