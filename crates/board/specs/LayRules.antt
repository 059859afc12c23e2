-- The rules of a lay. It needs, in this order:
--
-- - the first step of the turn and the turn's one lay, which CS's lay does not use;
-- - a hex that is not grey or red;
-- - a tile in the stock;
-- - a colour that has come, green with phase 3 and brown with phase 5;
-- - the hex's kind and its next colour, the stops swapped only if there are two;
-- - all old track of the hex;
-- - no bad side;
-- - a hex of no private that a player owns;
-- - some piece of the tile reached in the position after the lay, which CS's lay and DH's do not
--   need;
-- - the cash for the terrain, which is paid with the first tile of a hex.
use Rattle.std.specs.Prelude.{◌≡◌, ℕ, ◌+◌, ◌==◌, ◌&&◌, ◌||◌, ◌⊎◌, ◌↔◌, Bool, false, not, nat_lt, nat_le, IsTrue, List}
use Rattle.std.specs.Prelude.{[], ◌∷◌, ◌++◌, Option, Some, None, Result, Ok, Err, ℤ, pos, slice_index_or, count_by}
use Rattle.std.specs.Int.Signed.{lt_z}
use Rattle.std.specs.List.{list_any}
use Rattle.map_tables.specs.Fit.{has_bad_side, is_open, is_wrong_kind}
use Rattle.board_state.specs.MapState.{MapState, position_of, with_lay}
use Rattle.map_tables.specs.OnMap.{by_tile, colour_on, links_on, tile_on}
use Rattle.board.specs.Powers.{is_cs_lay, is_dh_lay}
use Rattle.board.specs.Turn.{place_of_step}
use Rattle.board.specs.declared.turn.Asker.{Asker}
use Rattle.board.specs.declared.turn.TurnStep.TheVariants as step
use Rattle.board.specs.declared.fault.LayFault.{LayFault}
use Rattle.board.specs.declared.fault.LayFault.TheVariants as fault
use Rattle.map_tables.specs.Hex.{hexes, same_hex}
use Rattle.map_tables.specs.Home.{hexes_of_private}
use Rattle.map_tables.specs.Laws.{link_order}
use Rattle.map_tables.specs.Lay.{laid_links_of}
use Rattle.map_tables.specs.Place.{stop_at}
use Rattle.map_tables.specs.Print.{print_of}
use Rattle.map_tables.specs.Tile.{entry_of, tile_index_of}
use Rattle.map_tables.specs.declared.hex.Hex.{Hex}
use Rattle.map_tables.specs.declared.lay.Lay.{Lay}
use Rattle.map_tables.specs.declared.place.StopNumber.{StopNumber}
use Rattle.map_tables.specs.declared.rules.LayRule.{LayRule}
use Rattle.map_tables.specs.declared.rules.LayRule.TheVariants as rule
use Rattle.map_tables.specs.declared.tiles.Colour.{Colour}
use Rattle.map_tables.specs.declared.tiles.Colour.TheVariants.{White, Yellow, Green, Brown}
use Rattle.map_tables.specs.declared.tiles.TileNo.{TileNo}
use Rattle.map_tables.specs.declared.track.Link.{Link}
use Rattle.reach.specs.Position.{IsAmong, Position}
use Rattle.reach.specs.Reached.{ReachesLink, ReachesStop}
use Rattle.tables.specs.Roster.{index_of_private, privates}
use Rattle.tables.specs.Rules.{Rule, first_broken}
use Rattle.tables.specs.Train.{index_of_kind}
use Rattle.tables.specs.declared.roster.Company.{Company}
use Rattle.tables.specs.declared.rolling_stock.Kind.{Kind}
use Rattle.tables.specs.declared.rolling_stock.Kind.TheVariants.{Three, Five}

-- whether the step of the lay is over, or its lay is used, which does not matter for CS's lay
unfoldable pub is_lay_used : List Lay → Asker → Hex → Bool
is_lay_used lays asker hex =
    not (place_of_step asker.pointer == place_of_step step.Lay) || (asker.lay_used && not (is_cs_lay lays asker hex))

-- whether a lay needs no connection: it is CS's, or DH's
abbrev pub needs_no_track : List Lay → Asker → Lay → Bool
needs_no_track lays asker lay = is_cs_lay lays asker lay.hex || is_dh_lay asker lay

-- whether a tile that lies is one of this number
abbrev pub is_tile : TileNo → Option Lay → Bool
is_tile tile on_map = by_tile false (λ lay. tile_index_of lay.tile == tile_index_of tile) on_map

-- how many tiles of a number lie on the map; one that was replaced does not
unfoldable pub on_map_of : List Lay → TileNo → ℕ
on_map_of lays tile = count_by (λ hex. is_tile tile (tile_on lays hex)) hexes

-- whether the stock has none left of a tile
unfoldable pub is_none_left : List Lay → TileNo → Bool
is_none_left lays tile = nat_le (entry_of tile).count (on_map_of lays tile)

-- whether a colour isn't available yet
unfoldable pub is_colour_closed : Kind → Colour → Bool
is_colour_closed phase Green = nat_lt (index_of_kind phase) (index_of_kind Three)
is_colour_closed phase Brown = nat_lt (index_of_kind phase) (index_of_kind Five)
is_colour_closed phase other = false

-- the place of a colour in the order of colours
abbrev pub place_of_colour : Colour → ℕ
place_of_colour White = 0
place_of_colour Yellow = 1
place_of_colour Green = 2
place_of_colour Brown = 3

-- whether a tile does not have the colour that comes next on its hex
unfoldable pub is_wrong_colour : List Lay → Lay → Bool
is_wrong_colour lays lay =
    not (place_of_colour (entry_of lay.tile).colour == place_of_colour (colour_on lays lay.hex) + 1)

-- whether a link of a hex is one of these
abbrev pub is_kept : List Link → Link → Bool
is_kept links old = list_any (λ link. link_order link == link_order old) links

-- whether some link of the hex is not one of the tile's
unfoldable pub loses_track : List Lay → Lay → Bool
loses_track lays lay = list_any (λ old. not (is_kept (laid_links_of lay) old)) (links_on lays lay.hex)

-- whether a hex is one of a private that a player owns
unfoldable pub is_blocked : Asker → Hex → Bool
is_blocked asker hex = list_any (λ private. slice_index_or asker.player_privates (index_of_private private) false
    && list_any (λ one. same_hex one hex) (hexes_of_private private)) privates

-- what a lay on a hex costs: its terrain, with the first tile
unfoldable pub lay_cost_of : List Lay → Hex → ℕ
lay_cost_of lays hex = by_tile (print_of hex).cost (λ lay. 0) (tile_on lays hex)

-- a company reaches some piece of the tile: a link of it, or a stop of its hex
pub record IsConnected (position : Position) (company : Company) (lay : Lay) : Type 0 where
  pub piece : ((link : Link) × IsAmong link (laid_links_of lay) × ReachesLink position company link)
      ⊎ ((number : StopNumber) × ReachesStop position company (stop_at lay.hex number))

-- the rules that do not depend on what is reached
abbrev pub map_rules : MapState → Asker → Lay → List (Rule LayRule)
map_rules laid asker lay = record { code = rule.StepUsed; broken = is_lay_used laid.lays asker lay.hex }
    ∷ record { code = rule.GreyOrRed; broken = not (is_open (print_of lay.hex).kind) }
    ∷ record { code = rule.NoneLeft; broken = is_none_left laid.lays lay.tile }
    ∷ record { code = rule.ColourClosed; broken = is_colour_closed laid.phase (entry_of lay.tile).colour }
    ∷ record { code = rule.WrongTile; broken = is_wrong_colour laid.lays lay || is_wrong_kind lay }
    ∷ record { code = rule.TrackLost; broken = loses_track laid.lays lay }
    ∷ record { code = rule.BadSide; broken = has_bad_side lay }
    ∷ record { code = rule.Blocked; broken = is_blocked asker lay.hex } ∷ []

-- the rules that are looked at once it is known whether some piece of the tile is reached
abbrev pub lay_reach_rules : MapState → Asker → Lay → Bool → List (Rule LayRule)
lay_reach_rules laid asker lay reached =
    record { code = rule.NotReached; broken = not (needs_no_track laid.lays asker lay || reached) }
    ∷ record { code = rule.CashTooSmall; broken = lt_z asker.cash (pos (lay_cost_of laid.lays lay.hex)) } ∷ []

-- all rules of a lay
abbrev pub lay_rules : MapState → Asker → Lay → Bool → List (Rule LayRule)
lay_rules laid asker lay reached = map_rules laid asker lay ++ lay_reach_rules laid asker lay reached

-- the cost, or the rule that is broken first
abbrev pub cost_or : {Fault : Type 0} → ℕ → Option Fault → Result ℤ Fault
cost_or cost None = Ok (pos cost)
cost_or cost (Some fault) = Err fault

-- the cost of a lay, or the first rule that it breaks, given whether some piece of the tile is
-- reached
abbrev pub lay_answer_of : MapState → Asker → Lay → Bool → Result ℤ LayRule
lay_answer_of laid asker lay reached =
    cost_or (lay_cost_of laid.lays lay.hex) (first_broken (lay_rules laid asker lay reached))

-- the outcome of a lay: its cost, or the first rule that it breaks. If the rules before it are
-- kept, what is reached is looked at, in the position after the lay.
pub record IsLayAnswer (laid : MapState) (asker : Asker) (lay : Lay) (answer : Result ℤ LayRule) : Type 0 where
  pub reached : Bool
  pub exact : first_broken (map_rules laid asker lay) ≡ None
      → IsTrue reached ↔ IsConnected (position_of (with_lay laid lay)) asker.company lay
  pub given : answer ≡ lay_answer_of laid asker lay reached

-- the outcome of a call for a lay: that of the lay; or allocation fails, if the rules before what
-- is reached are kept
abbrev pub IsLayOutcome : MapState → Asker → Lay → Result ℤ LayFault → Type 0
IsLayOutcome laid asker lay (Ok cost) = IsLayAnswer laid asker lay (Ok cost)
IsLayOutcome laid asker lay (Err (fault.Rule rule)) = IsLayAnswer laid asker lay (Err rule)
IsLayOutcome laid asker lay (Err (fault.Memory error)) = first_broken (map_rules laid asker lay) ≡ None
