-- A network of four stops, which no board is. H10 and H12 are cities with a token of PRR each, G11
-- is a city that a token of NYC fills, and G13 is a red area. Track joins each two of them that lie
-- side by side: all but H10 and G13. In H12 a piece of plain track also goes past the city, from
-- H10 to G11. The Gulf and the Canadian West are red, as on each network, and no track leads to
-- them.
use Rattle.std.specs.Prelude.{ℕ, true, false, Option, Some, None, List, [], ◌∷◌, get_or, map}
use Rattle.map_tables.specs.Hex.{hexes}
use Rattle.map_tables.specs.declared.hex.Hex.{Hex}
use Rattle.map_tables.specs.declared.hex.Hex.TheVariants.{A11, G11, G13, H10, H12, J2}
use Rattle.map_tables.specs.declared.place.StopNumber.TheVariants.{First}
use Rattle.map_tables.specs.declared.side.Side.{Side}
use Rattle.map_tables.specs.declared.side.Side.TheVariants.{SouthWest, West, NorthWest, NorthEast, East, SouthEast}
use Rattle.map_tables.specs.declared.track.TrackEnd.TheVariants.{Side as AtSide, Stop as AtStop}
use Rattle.map_tables.specs.declared.track.Link.{Link}
use Rattle.test_umpire.specs.declared.four_stops.Standing.{Standing}
use Rattle.map_tables.specs.Place.{stop_index_of}
use Rattle.map_tables.specs.declared.place.StopNumber.{StopNumber}
use Rattle.reach.specs.Position.{InHex, Position, empty_hex, no_stop}
use Rattle.reach.specs.Position as there
use Rattle.tables.specs.declared.roster.Company.{Company}
use Rattle.tables.specs.declared.roster.Company.TheVariants.{Pennsylvania, NewYorkCentral}

-- track from a side of a hex to its stop
abbrev pub spoke : Hex → Side → Link
spoke hex side = record { hex = hex; a = AtSide side; b = AtStop First }

-- track from a side of a hex to another
abbrev pub through : Hex → Side → Side → Link
through hex from to = record { hex = hex; a = AtSide from; b = AtSide to }

-- a city with a token
abbrev pub city : ℕ → ℕ → Company → there.AtStop
city value slots company = record { value = value; red = false; slots = slots; tokens = company ∷ [] }

-- a red area
abbrev pub red_area : ℕ → there.AtStop
red_area value = record { value = value; red = true; slots = 0; tokens = [] }

-- what is in a hex
abbrev pub on_map_in : Hex → InHex
on_map_in G11 =
    record {
      links = spoke G11 SouthWest ∷ spoke G11 East ∷ spoke G11 SouthEast ∷ [];
      stops = city 40 1 NewYorkCentral ∷ [];
    }
on_map_in G13 = record { links = spoke G13 SouthWest ∷ spoke G13 West ∷ []; stops = red_area 50 ∷ [] }
on_map_in H10 =
    record { links = spoke H10 NorthEast ∷ spoke H10 East ∷ []; stops = city 20 1 Pennsylvania ∷ [] }
on_map_in H12 =
    record {
      links = through H12 West NorthWest ∷ spoke H12 West ∷ spoke H12 NorthWest ∷ spoke H12 NorthEast ∷ [];
      stops = city 30 2 Pennsylvania ∷ [];
    }
on_map_in J2 = record { links = []; stops = red_area 0 ∷ [] }
on_map_in A11 = record { links = []; stops = red_area 0 ∷ [] }
on_map_in hex = empty_hex

-- the position
unfoldable pub four_stops : Position
four_stops = record { hexes = map on_map_in hexes }

-- a token, if there is one
abbrev pub listed : Option Company → List Company
listed None = []
listed (Some company) = company ∷ []

-- what the network says of a stop
abbrev pub at_stop_of : Standing → there.AtStop
at_stop_of standing =
    record { value = standing.value; red = standing.red; slots = standing.slots; tokens = listed standing.token }

-- what is at a stop, in the hex that names it
abbrev pub standing_in : Hex → StopNumber → there.AtStop
standing_in hex number = get_or (on_map_in hex).stops (stop_index_of number) no_stop
