-- Example for the chapter `best-runs`: a 3-train and a 2-train, which do not earn most by the longest run first.
-- PRR has its token on H12.0, its home. The yellow cities 57 lie on H10 and H16, and straight track
-- 9 on H14 between H12 and H16. H10 and H16 are worth 20, H12 is worth 10. The two trains can earn
-- 60: each visits H12 and one of the others. If the 3-train visits all three, for 50, no border is
-- left on which the 2-train could leave H12.
use Rattle.std.proofs.Common.{◌≡◌, refl, false, List, [], ◌∷◌, Option, Some, None}
use Rattle.board_state.specs.MapState.{map_state_of, position_of}
use Rattle.legal_runs.specs.Fault.{named_steps, run_fault}
use Rattle.legal_runs.specs.Legal.{border_of, crossed, earned}
use Rattle.legal_runs.specs.Named.{leg_to, side_towards, step_between}
use Rattle.map_tables.specs.Border.{adjacent, neighbour_of}
use Rattle.map_tables.specs.Hex.{hex_at, hexes, index_of, site_of}
use Rattle.map_tables.specs.Lay.{laid_links_of, laid_track_of}
use Rattle.map_tables.specs.OnMap.{tile_on}
use Rattle.map_tables.specs.Print.{groups, plain_hexes, print_of, printed_links_of}
use Rattle.map_tables.specs.Tile.{printed, tile_index_of, number_of_tile, tiles}
use Rattle.map_tables.specs.declared.hex.Hex.{Hex}
use Rattle.map_tables.specs.declared.hex.Hex.TheVariants.{H10, H12, H14, H16}
use Rattle.map_tables.specs.declared.lay.Lay.{Lay}
use Rattle.map_tables.specs.declared.place.Place.{Place}
use Rattle.map_tables.specs.declared.place.StopNumber.TheVariants.{First}
use Rattle.map_tables.specs.declared.rules.RunRule.{RunRule}
use Rattle.map_tables.specs.declared.rules.RunRule.TheVariants as rule
use Rattle.map_tables.specs.declared.side.Rotation.TheVariants.{One}
use Rattle.map_tables.specs.declared.tiles.TileNo.{TileNo}
use Rattle.map_tables.specs.declared.tiles.TileNo.TheVariants.{T9, T57}
use Rattle.reach.specs.Position.{Position}
use Rattle.tables.specs.declared.rolling_stock.Kind.{Kind}
use Rattle.tables.specs.declared.rolling_stock.Kind.TheVariants.{Two, Three}
use Rattle.tables.specs.declared.roster.Company.TheVariants.{Pennsylvania}

abbrev laid : Hex → TileNo → Lay
laid hex tile = record { hex = hex; tile = tile; rot = One; swap = false }

abbrev stop : Hex → Place
stop hex = record { hex = hex; stop = Some First }

abbrev through : Hex → Place
through hex = record { hex = hex; stop = None }

abbrev map_now : Position
map_now = position_of (map_state_of (laid H10 T57 ∷ laid H14 T9 ∷ laid H16 T57 ∷ []) ((stop H12, Pennsylvania) ∷ []) Two)

-- the first rule that a run of a train breaks, if another has run by these places before
abbrev broken : List Place → Kind → List Place → Option RunRule
broken before kind run = run_fault map_now Pennsylvania kind (crossed (named_steps map_now before)) run

-- the runs
abbrev to_the_west : List Place
to_the_west = stop H10 ∷ stop H12 ∷ []

abbrev to_the_east : List Place
to_the_east = stop H12 ∷ through H14 ∷ stop H16 ∷ []

abbrev all_three : List Place
all_three = stop H10 ∷ stop H12 ∷ through H14 ∷ stop H16 ∷ []

-- one after the other they run west and east, for 30 each
pub first_west : broken [] Three to_the_west ≡ None
unfolding position_of tile_on index_of groups plain_hexes print_of printed_links_of printed tile_index_of tiles number_of_tile hexes
    laid_links_of laid_track_of neighbour_of adjacent hex_at site_of side_towards step_between leg_to border_of
first_west = refl

pub then_east : broken to_the_west Two to_the_east ≡ None
unfolding position_of tile_on index_of groups plain_hexes print_of printed_links_of printed tile_index_of tiles number_of_tile hexes
    laid_links_of laid_track_of neighbour_of adjacent hex_at site_of side_towards step_between leg_to border_of
then_east = refl

pub west_earns : earned map_now (named_steps map_now to_the_west) ≡ 30
unfolding position_of tile_on index_of groups plain_hexes print_of printed_links_of printed tile_index_of tiles number_of_tile hexes
    laid_links_of laid_track_of neighbour_of adjacent hex_at site_of side_towards step_between leg_to border_of
west_earns = refl

pub east_earns : earned map_now (named_steps map_now to_the_east) ≡ 30
unfolding position_of tile_on index_of groups plain_hexes print_of printed_links_of printed tile_index_of tiles number_of_tile hexes
    laid_links_of laid_track_of neighbour_of adjacent hex_at site_of side_towards step_between leg_to border_of
east_earns = refl

-- the 3-train may visit all three cities, for 50
pub all_are_visited : broken [] Three all_three ≡ None
unfolding position_of tile_on index_of groups plain_hexes print_of printed_links_of printed tile_index_of tiles number_of_tile hexes
    laid_links_of laid_track_of neighbour_of adjacent hex_at site_of side_towards step_between leg_to border_of
all_are_visited = refl

pub all_earn : earned map_now (named_steps map_now all_three) ≡ 50
unfolding position_of tile_on index_of groups plain_hexes print_of printed_links_of printed tile_index_of tiles number_of_tile hexes
    laid_links_of laid_track_of neighbour_of adjacent hex_at site_of side_towards step_between leg_to border_of
all_earn = refl

-- then the 2-train may run neither west nor east (R6)
pub not_west : broken all_three Two to_the_west ≡ Some rule.BorderTwice
unfolding position_of tile_on index_of groups plain_hexes print_of printed_links_of printed tile_index_of tiles number_of_tile hexes
    laid_links_of laid_track_of neighbour_of adjacent hex_at site_of side_towards step_between leg_to border_of
not_west = refl

pub not_east : broken all_three Two to_the_east ≡ Some rule.BorderTwice
unfolding position_of tile_on index_of groups plain_hexes print_of printed_links_of printed tile_index_of tiles number_of_tile hexes
    laid_links_of laid_track_of neighbour_of adjacent hex_at site_of side_towards step_between leg_to border_of
not_east = refl
