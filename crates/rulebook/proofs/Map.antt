-- Example for the chapter `map`: neighbours.
-- The hex to the east of H10 is H12, and the one to its north-east G11. Between E7 and F8 the
-- border is closed, and south of K13 the map ends.
use Rattle.std.proofs.Common.{◌≡◌, refl, Some, None}
use Rattle.map_tables.specs.Border.{adjacent, neighbour_of}
use Rattle.map_tables.specs.Hex.{hex_at, hexes, index_of, site_of}
use Rattle.map_tables.specs.Home.{home_of}
use Rattle.map_tables.specs.Place.{joined_stop_of, stop_at}
use Rattle.map_tables.specs.declared.hex.Hex.TheVariants.{H10, H12, G11, E7, K13, I1, J2}
use Rattle.map_tables.specs.declared.place.StopNumber.TheVariants.{First}
use Rattle.map_tables.specs.declared.side.Side.TheVariants.{East, NorthEast, SouthEast}
use Rattle.tables.specs.declared.roster.Company.TheVariants.{Pennsylvania}

pub east_of_h10 : neighbour_of H10 East ≡ Some H12
unfolding neighbour_of adjacent hex_at site_of hexes index_of
east_of_h10 = refl

pub north_east_of_h10 : neighbour_of H10 NorthEast ≡ Some G11
unfolding neighbour_of adjacent hex_at site_of hexes index_of
north_east_of_h10 = refl

pub closed_border : neighbour_of E7 SouthEast ≡ None
unfolding neighbour_of adjacent hex_at site_of hexes index_of
closed_border = refl

pub end_of_the_map : neighbour_of K13 SouthEast ≡ None
unfolding neighbour_of adjacent hex_at site_of hexes index_of
end_of_the_map = refl

-- the stop of I1 is that of J2, the Gulf
pub gulf : joined_stop_of (stop_at I1 First) ≡ stop_at J2 First
gulf = refl

pub home_of_prr : home_of Pennsylvania ≡ stop_at H12 First
home_of_prr = refl
