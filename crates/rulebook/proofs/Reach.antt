-- Example for the chapter `reach`: a walk out of a home.
-- PRR has its token on H12.0. On H10, to the west, lies the yellow city 57. A walk leaves the token
-- by the track to the west, crosses the border, and comes from the east into the city. Its latest
-- step is first.
use Rattle.std.proofs.Common.{◌≡◌, refl, false, true, inl, inr, Some, [], ◌∷◌}
use Rattle.board_state.specs.MapState.{map_state_of, position_of}
use Rattle.map_tables.specs.Border.{adjacent, neighbour_of}
use Rattle.map_tables.specs.Hex.{hex_at, hexes, index_of, site_of}
use Rattle.map_tables.specs.Lay.{laid_links_of, laid_track_of}
use Rattle.map_tables.specs.OnMap.{tile_on}
use Rattle.map_tables.specs.Place.{stop_at}
use Rattle.map_tables.specs.Print.{groups, plain_hexes, print_of, printed_links_of}
use Rattle.map_tables.specs.Tile.{printed, tile_index_of, number_of_tile, tiles}
use Rattle.map_tables.specs.declared.hex.Hex.TheVariants.{H10, H12}
use Rattle.map_tables.specs.declared.place.StopNumber.TheVariants.{First}
use Rattle.map_tables.specs.declared.side.Rotation.TheVariants.{One}
use Rattle.map_tables.specs.declared.side.Side.TheVariants.{West, East}
use Rattle.map_tables.specs.declared.tiles.TileNo.TheVariants.{T57}
use Rattle.map_tables.specs.declared.track.TrackEnd.TheVariants.{Side as AtSide, Stop as AtStop}
use Rattle.reach.specs.Position.{Position, links_of}
use Rattle.reach.specs.Reached.{ReachesStop}
use Rattle.reach.specs.declared.walk.WalkStep.{WalkStep}
use Rattle.tables.specs.declared.rolling_stock.Kind.TheVariants.{Two}
use Rattle.tables.specs.declared.roster.Company.TheVariants.{Pennsylvania}

abbrev map_now : Position
map_now =
    position_of
    (map_state_of (record { hex = H10; tile = T57; rot = One; swap = false } ∷ [])
    ((record { hex = H12; stop = Some First }, Pennsylvania) ∷ []) Two)

-- the track of H10 as the tile lies there
pub track_of_h10 :
    links_of map_now H10
    ≡ record { hex = H10; a = AtSide West; b = AtStop First } ∷ record { hex = H10; a = AtSide East; b = AtStop First } ∷ []
unfolding position_of tile_on index_of site_of groups plain_hexes print_of printed_links_of printed tile_index_of tiles number_of_tile hexes
    laid_links_of laid_track_of
track_of_h10 = refl

-- out of H12.0 to the west: the link is entered at its second end
abbrev out_of_home : WalkStep
out_of_home = record { link = record { hex = H12; a = AtSide West; b = AtStop First }; turned = true }

-- from the east into the city of H10
abbrev into_city : WalkStep
into_city = record { link = record { hex = H10; a = AtSide East; b = AtStop First }; turned = false }

-- by this walk PRR reaches H10.0
pub reaches_h10 : ReachesStop map_now Pennsylvania (stop_at H10 First)
unfolding position_of tile_on index_of groups plain_hexes print_of printed_links_of printed tile_index_of tiles number_of_tile hexes
    laid_links_of laid_track_of neighbour_of adjacent hex_at site_of
reaches_h10 =
    inr (
      into_city ∷ out_of_home ∷ [],
      record {
        walk = (inr (inl refl), inr refl, (inr (inl refl), tt, tt));
        from_token = (stop_at H12 First, refl, inl refl);
        passes = (tt, (tt, tt));
      },
      inl (inr refl),
    )
