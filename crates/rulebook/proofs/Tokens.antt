-- Example for the chapter `tokens`: what a token costs, and where none may be placed.
-- PRR has its token on H12.0, its home, and 40. A yellow city lies on H10 and one on E19, the home
-- of NYC, which has no token yet: the one slot of E19 is kept for it.
use Rattle.std.proofs.Common.{◌≡◌, refl, false, pos, Option, Some, None, [], ◌∷◌}
use Rattle.board.specs.Example.{beginner}
use Rattle.board.specs.TokenRules.{has_none_left, has_token_in, is_no_free_slot, is_token_used, kept_at, laid_by}
use Rattle.board.specs.TokenRules.{slot_rules}
use Rattle.board_state.specs.MapState.{MapState, map_state_of}
use Rattle.map_tables.specs.Hex.{hexes, index_of, site_of}
use Rattle.map_tables.specs.OnMap.{tile_on}
use Rattle.map_tables.specs.Print.{groups, plain_hexes, print_of}
use Rattle.map_tables.specs.Tile.{printed, tile_index_of, number_of_tile, tiles}
use Rattle.map_tables.specs.declared.hex.Hex.{Hex}
use Rattle.map_tables.specs.declared.hex.Hex.TheVariants.{E19, H8, H10, H12}
use Rattle.map_tables.specs.declared.place.Place.{Place}
use Rattle.map_tables.specs.declared.place.StopNumber.TheVariants.{First}
use Rattle.map_tables.specs.declared.rules.TokenRule.{TokenRule}
use Rattle.map_tables.specs.declared.rules.TokenRule.TheVariants as rule
use Rattle.map_tables.specs.declared.side.Rotation.TheVariants.{One}
use Rattle.map_tables.specs.declared.tiles.TileNo.TheVariants.{T57}
use Rattle.tables.specs.Roster.{token_price_of, token_supply_of}
use Rattle.tables.specs.Rules.{first_broken}
use Rattle.tables.specs.declared.rolling_stock.Kind.TheVariants.{Two}
use Rattle.tables.specs.declared.roster.Company.TheVariants.{Pennsylvania, NewHaven}

abbrev stop : Hex → Place
stop hex = record { hex = hex; stop = Some First }

abbrev laid : MapState
laid =
    map_state_of
    (record { hex = H10; tile = T57; rot = One; swap = false } ∷ record { hex = E19; tile = T57; rot = One; swap = false } ∷ [])
    ((stop H12, Pennsylvania) ∷ []) Two

-- the first rule that a token of PRR breaks, of those that don't depend on what it reaches
abbrev broken : Hex → Option TokenRule
broken hex = first_broken (slot_rules laid (beginner Pennsylvania (pos 40)) (stop hex))

-- on H10 none
pub on_h10 : broken H10 ≡ None
unfolding tile_on index_of site_of groups plain_hexes print_of printed tile_index_of tiles number_of_tile hexes is_token_used has_none_left
    has_token_in is_no_free_slot kept_at laid_by
on_h10 = refl

-- on E19 the slot is kept for NYC, and on H8 there is no city (K3)
pub kept_for_nyc : broken E19 ≡ Some rule.NoFreeSlot
unfolding tile_on index_of site_of groups plain_hexes print_of printed tile_index_of tiles number_of_tile hexes is_token_used has_none_left
    has_token_in is_no_free_slot kept_at laid_by
kept_for_nyc = refl

pub no_city : broken H8 ≡ Some rule.NoFreeSlot
unfolding tile_on index_of site_of groups plain_hexes print_of printed tile_index_of tiles number_of_tile hexes is_token_used has_none_left
    has_token_in is_no_free_slot kept_at laid_by
no_city = refl

-- the second token costs 40, each later one 100; PRR has four, NYNH two
pub second : token_price_of 1 ≡ 40
second = refl

pub third : token_price_of 2 ≡ 100
third = refl

pub of_prr : token_supply_of Pennsylvania ≡ 4
of_prr = refl

pub of_nynh : token_supply_of NewHaven ≡ 2
of_nynh = refl
