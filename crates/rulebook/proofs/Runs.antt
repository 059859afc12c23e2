-- Example for the chapter `runs`: runs of 2-trains.
-- PRR has tokens on H12.0, its home, and on H16.0. The yellow cities 57 lie on H10 and H16, and
-- straight track 9 on H14 between H12 and H16. H10 and H16 are worth 20, H12 is worth 10.
use Rattle.std.proofs.Common.{◌≡◌, refl, ℕ, false, List, [], ◌∷◌, Option, Some, None}
use Rattle.board_state.specs.MapState.{map_state_of, position_of}
use Rattle.legal_runs.specs.Fault.{named_steps, run_fault}
use Rattle.legal_runs.specs.Legal.{border_of, crossed, earned}
use Rattle.legal_runs.specs.Named.{leg_to, side_towards, step_between}
use Rattle.map_tables.specs.Border.{adjacent, neighbour_of}
use Rattle.map_tables.specs.Hex.{hex_at, hexes, index_of, site_of}
use Rattle.map_tables.specs.Lay.{laid_links_of, laid_track_of}
use Rattle.map_tables.specs.OnMap.{tile_on}
use Rattle.map_tables.specs.Print.{groups, plain_hexes, print_of, printed_links_of}
use Rattle.map_tables.specs.Tile.{printed, tile_index_of, number_of_tile, tiles}
use Rattle.map_tables.specs.declared.hex.Hex.{Hex}
use Rattle.map_tables.specs.declared.hex.Hex.TheVariants.{H10, H12, H14, H16}
use Rattle.map_tables.specs.declared.lay.Lay.{Lay}
use Rattle.map_tables.specs.declared.place.Place.{Place}
use Rattle.map_tables.specs.declared.place.StopNumber.TheVariants.{First}
use Rattle.map_tables.specs.declared.rules.RunRule.{RunRule}
use Rattle.map_tables.specs.declared.rules.RunRule.TheVariants as rule
use Rattle.map_tables.specs.declared.side.Rotation.TheVariants.{One}
use Rattle.map_tables.specs.declared.tiles.TileNo.{TileNo}
use Rattle.map_tables.specs.declared.tiles.TileNo.TheVariants.{T9, T57}
use Rattle.reach.specs.Position.{Position}
use Rattle.tables.specs.declared.rolling_stock.Kind.TheVariants.{Two}
use Rattle.tables.specs.declared.roster.Company.TheVariants.{Pennsylvania}

abbrev laid : Hex → TileNo → Lay
laid hex tile = record { hex = hex; tile = tile; rot = One; swap = false }

-- the first stop of a hex, and through track of it
abbrev stop : Hex → Place
stop hex = record { hex = hex; stop = Some First }

abbrev through : Hex → Place
through hex = record { hex = hex; stop = None }

abbrev map_now : Position
map_now =
    position_of
    (map_state_of (laid H10 T57 ∷ laid H14 T9 ∷ laid H16 T57 ∷ []) ((stop H12, Pennsylvania) ∷ (stop H16, Pennsylvania) ∷ [])
    Two)

-- the first rule that a run of a 2 breaks, if these borders were used before
abbrev broken : List ℕ → List Place → Option RunRule
broken used run = run_fault map_now Pennsylvania Two used run

-- from H10.0 to H12.0 for 30
pub short_run : broken [] (stop H10 ∷ stop H12 ∷ []) ≡ None
unfolding position_of tile_on index_of groups plain_hexes print_of printed_links_of printed tile_index_of tiles number_of_tile hexes
    laid_links_of laid_track_of neighbour_of adjacent hex_at site_of side_towards step_between leg_to border_of
short_run = refl

pub short_run_earns : earned map_now (named_steps map_now (stop H10 ∷ stop H12 ∷ [])) ≡ 30
unfolding position_of tile_on index_of groups plain_hexes print_of printed_links_of printed tile_index_of tiles number_of_tile hexes
    laid_links_of laid_track_of neighbour_of adjacent hex_at site_of side_towards step_between leg_to border_of
short_run_earns = refl

-- from H10.0 through H12, past its city, and through H14 to H16.0 for 40
abbrev long_run : List Place
long_run = stop H10 ∷ through H12 ∷ through H14 ∷ stop H16 ∷ []

pub long_run_is_legal : broken [] long_run ≡ None
unfolding position_of tile_on index_of groups plain_hexes print_of printed_links_of printed tile_index_of tiles number_of_tile hexes
    laid_links_of laid_track_of neighbour_of adjacent hex_at site_of side_towards step_between leg_to border_of
long_run_is_legal = refl

pub long_run_earns : earned map_now (named_steps map_now long_run) ≡ 40
unfolding position_of tile_on index_of groups plain_hexes print_of printed_links_of printed tile_index_of tiles number_of_tile hexes
    laid_links_of laid_track_of neighbour_of adjacent hex_at site_of side_towards step_between leg_to border_of
long_run_earns = refl

-- after it the short run crosses a border again (R6)
pub border_again : broken (crossed (named_steps map_now long_run)) (stop H10 ∷ stop H12 ∷ []) ≡ Some rule.BorderTwice
unfolding position_of tile_on index_of groups plain_hexes print_of printed_links_of printed tile_index_of tiles number_of_tile hexes
    laid_links_of laid_track_of neighbour_of adjacent hex_at site_of side_towards step_between leg_to border_of
border_again = refl

-- by all three cities it visits too many stops for a 2 (R4), and no track joins H10 and H14
-- directly (R3)
pub three_stops : broken [] (stop H10 ∷ stop H12 ∷ through H14 ∷ stop H16 ∷ []) ≡ Some rule.WrongNumber
unfolding position_of tile_on index_of groups plain_hexes print_of printed_links_of printed tile_index_of tiles number_of_tile hexes
    laid_links_of laid_track_of neighbour_of adjacent hex_at site_of side_towards step_between leg_to border_of
three_stops = refl

pub no_track : broken [] (stop H10 ∷ stop H14 ∷ []) ≡ Some rule.NoTrack
unfolding position_of tile_on index_of groups plain_hexes print_of printed_links_of printed tile_index_of tiles number_of_tile hexes
    laid_links_of laid_track_of neighbour_of adjacent hex_at site_of side_towards step_between leg_to border_of
no_track = refl
