-- The examples are computed from the definitions; what is reached is shown by a token or a walk.
use Rattle.std.proofs.Common.{◌≡◌, refl, inl, inr, true, false, [], ◌∷◌, Some, pos, Ok, Err}
use Rattle.board.specs.Example.{WorkedExamples, beginner, city_beside, erie_at_home, pennsylvania_at_home, tile_59}
use Rattle.map_tables.specs.Fit.{has_bad_side, is_wrong_kind}
use Rattle.board_state.specs.MapState.{position_of, with_lay}
use Rattle.map_tables.specs.OnMap.{tile_on}
use Rattle.board.specs.LayRules.{IsConnected, cost_or, map_rules, is_blocked, is_colour_closed, is_lay_used}
use Rattle.board.specs.LayRules.{is_none_left, is_wrong_colour, lay_cost_of, lay_rules, loses_track, on_map_of}
use Rattle.board.specs.Powers.{is_cs_lay, is_dh_lay, is_dh_token}
use Rattle.board.specs.TokenRules.{IsReachedPlace, has_none_left, has_token_in, is_no_free_slot, is_token_used, kept_at}
use Rattle.board.specs.TokenRules.{laid_by, token_cost_of, token_rules}
use Rattle.map_tables.specs.declared.rules.LayRule.TheVariants.{ColourClosed}
use Rattle.map_tables.specs.declared.rules.TokenRule.TheVariants.{CashTooSmall}
use Rattle.board.proofs.LayAnswers.{broken_before}
use Rattle.map_tables.specs.Border.{adjacent, neighbour_of}
use Rattle.map_tables.specs.Hex.{hex_at, hexes, index_of, site_of}
use Rattle.map_tables.specs.Lay.{laid_links_of, laid_track_of}
use Rattle.map_tables.specs.Place.{stop_at}
use Rattle.map_tables.specs.Print.{groups, plain_hexes, print_of, printed_links_of}
use Rattle.map_tables.specs.Tile.{printed, tile_index_of, number_of_tile, tiles}
use Rattle.map_tables.specs.declared.hex.Hex.TheVariants.{E11, H10, H12}
use Rattle.map_tables.specs.declared.place.StopNumber.TheVariants.{First}
use Rattle.map_tables.specs.declared.side.Side.TheVariants.{West, East}
use Rattle.map_tables.specs.declared.track.TrackEnd.TheVariants.{Side as AtSide, Stop as AtStop}
use Rattle.reach.specs.Reached.{IsWalkOf}
use Rattle.reach.specs.declared.walk.WalkStep.{WalkStep}
use Rattle.tables.specs.Rules.{first_broken}
use Rattle.tables.specs.declared.roster.Company.TheVariants.{Erie, Pennsylvania}
use Rattle.tables.specs.declared.rolling_stock.Kind.TheVariants.{Two, Three}

-- in phase 2 no green tile is laid
early : Some ColourClosed ≡ first_broken (map_rules (erie_at_home Two) (beginner Erie (pos 0)) (tile_59 false))
unfolding is_cs_lay is_dh_lay is_lay_used is_none_left on_map_of is_colour_closed tile_on index_of site_of groups plain_hexes
    print_of printed tile_index_of tiles number_of_tile hexes
early = refl

-- the lay with its stops swapped breaks no rule, and costs nothing
allowed : Ok (pos 0) ≡ cost_or (lay_cost_of (erie_at_home Three).lays E11)
    (first_broken (lay_rules (erie_at_home Three) (beginner Erie (pos 0)) (tile_59 true) true))
unfolding is_cs_lay is_dh_lay is_lay_used is_none_left on_map_of is_colour_closed is_wrong_colour is_wrong_kind
    loses_track has_bad_side is_blocked lay_cost_of tile_on index_of groups plain_hexes print_of printed_links_of
    printed tile_index_of tiles number_of_tile hexes laid_links_of laid_track_of neighbour_of adjacent hex_at site_of
allowed = refl

-- the Erie's own token is reached
connected : IsConnected (position_of (with_lay (erie_at_home Three) (tile_59 true))) Erie (tile_59 true)
unfolding position_of tile_on index_of site_of groups plain_hexes print_of printed hexes
connected = record { piece = inr (First, inl (refl, inl refl)) }

-- the Pennsylvania leaves its home to the west, and reaches the city from the east
out_of_home : WalkStep
out_of_home = record { link = record { hex = H12; a = AtSide West; b = AtStop First }; turned = true }

into_city : WalkStep
into_city = record { link = record { hex = H10; a = AtSide East; b = AtStop First }; turned = false }

walk : IsWalkOf (position_of pennsylvania_at_home) Pennsylvania (into_city ∷ out_of_home ∷ [])
unfolding out_of_home into_city position_of tile_on index_of groups plain_hexes print_of printed_links_of printed
    hexes laid_links_of laid_track_of neighbour_of adjacent hex_at site_of
walk =
    record {
      walk = (inr (inl refl), inr refl, (inr (inl refl), tt, tt));
      from_token = (stop_at H12 First, refl, inl refl);
      passes = (tt, (tt, tt));
    }

-- so it reaches the city
reaches : IsReachedPlace (position_of pennsylvania_at_home) Pennsylvania city_beside
unfolding into_city
reaches =
    record {
      stop = stop_at H10 First;
      is = refl;
      reached = inr (into_city ∷ out_of_home ∷ [], walk, inl (inr refl));
    }

-- with 39 the token there costs too much
too_dear : Err CashTooSmall ≡ cost_or (token_cost_of pennsylvania_at_home.tokens (beginner Pennsylvania (pos 39)) H10)
    (first_broken (token_rules pennsylvania_at_home (beginner Pennsylvania (pos 39)) city_beside true))
unfolding is_dh_token is_token_used has_none_left has_token_in is_no_free_slot kept_at laid_by token_cost_of tile_on
    index_of hexes site_of groups plain_hexes print_of printed
too_dear = refl

-- with 40 it is not
placed : Ok (pos 40) ≡ cost_or (token_cost_of pennsylvania_at_home.tokens (beginner Pennsylvania (pos 40)) H10)
    (first_broken (token_rules pennsylvania_at_home (beginner Pennsylvania (pos 40)) city_beside true))
unfolding is_dh_token is_token_used has_none_left has_token_in is_no_free_slot kept_at laid_by token_cost_of tile_on
    index_of hexes site_of groups plain_hexes print_of printed
placed = refl

pub worked_examples : WorkedExamples
worked_examples =
    record {
      too_early = broken_before (erie_at_home Two) (beginner Erie (pos 0)) (tile_59 false) ColourClosed early;
      swapped = record { reached = true; exact = λ none. (λ t. connected, λ c. refl); given = allowed };
      too_dear = record { reached = true; exact = λ none. (λ t. reaches, λ r. refl); given = too_dear };
      placed = record { reached = true; exact = λ none. (λ t. reaches, λ r. refl); given = placed };
    }
