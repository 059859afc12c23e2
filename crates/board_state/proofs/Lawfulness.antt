-- The position keeps the laws of positions, whatever was laid.
use Rattle.std.proofs.Common.{◌≡◌, ◌∙◌, ap, sym, subst, refl, ◌≤◌, lit≤, Bool, true, false, cond, if◌then◌else◌, Option}
use Rattle.std.proofs.Common.{Some, None}
use Rattle.board_state.specs.MapState.{MapState, is_red_kind, position_of, value_in}
use Rattle.map_tables.specs.OnMap.{by_tile, is_stop, tile_on}
use Rattle.board_state.proofs.Parts.{parts_have_one_stop}
use Rattle.board_state.proofs.Positions.{in_hex_is, not_on_map, shown}
use Rattle.board_state.proofs.Tiles.{lies_there}
use Rattle.map_tables.specs.Hex.{index_of, same_hex, hexes, site_of}
use Rattle.map_tables.specs.Laws.{AreLinksOf, LaidLinksAreInOrder, NeighboursPair, PrintedLinksAreInOrder}
use Rattle.map_tables.specs.Laws.{ValuesAreAtMost80}
use Rattle.map_tables.specs.Lay.{laid_links_of}
use Rattle.map_tables.specs.Place.{joined_hex, joined_stop_of, stop_at}
use Rattle.map_tables.specs.Print.{groups, plain_hexes, print_of, printed_links_of}
use Rattle.map_tables.specs.Tile.{entry_of}
use Rattle.map_tables.specs.declared.hex.Hex.{Hex}
use Rattle.map_tables.specs.declared.hex.Hex.TheVariants.{A11, J2}
use Rattle.map_tables.specs.declared.lay.Lay.{Lay}
use Rattle.map_tables.specs.declared.place.Stop.{Stop}
use Rattle.map_tables.specs.declared.place.StopNumber.TheVariants.{First}
use Rattle.map_tables.proofs.HexTables.{same_hex-true}
use Rattle.reach.specs.Lawful.{IsLawful}
use Rattle.reach.specs.Position.{AtStop, InHex, value_of}
use Rattle.std.specs.Prelude.{nat_lt}
use Rattle.tables.specs.Train.{index_of_kind}
use Rattle.tables.specs.declared.rolling_stock.Kind.{Kind}
use Rattle.tables.specs.declared.rolling_stock.Kind.TheVariants.{Five}

-- the links of a hex are those of its print, or of the tile that lies on it
of_tile : PrintedLinksAreInOrder → LaidLinksAreInOrder → (hex : Hex) (on_map : Option Lay)
    → ((lay : Lay) → on_map ≡ Some lay → same_hex lay.hex hex ≡ true)
    → AreLinksOf hex (by_tile (printed_links_of hex) laid_links_of on_map)
of_tile printed laid hex None there = printed hex
of_tile printed laid hex (Some lay) there =
    subst (λ h. AreLinksOf h (laid_links_of lay)) (same_hex-true lay.hex hex (there lay refl)) (laid lay)

-- a printed value in any phase
of_print : ValuesAreAtMost80 → (phase : Kind) (hex : Hex) → value_in phase (print_of hex).value ≤ 80
of_print values phase hex =
    elim (nat_lt (index_of_kind phase) (index_of_kind Five)) as
    (λ b. cond b (print_of hex).value.before_phase_five (print_of hex).value.from_phase_five ≤ 80) [
      | true ↦ (values.0 hex).0
      | false ↦ (values.0 hex).1
    ]

-- what a stop is worth, by its print or the tile
value_low : ValuesAreAtMost80 → (phase : Kind) (hex : Hex) (on_map : Option Lay)
    → by_tile (value_in phase (print_of hex).value) (λ lay. (entry_of lay.tile).value) on_map ≤ 80
value_low values phase hex None = of_print values phase hex
value_low values phase hex (Some lay) = values.1 lay.tile

-- what any stop is worth
worth : ValuesAreAtMost80 → (laid : MapState) (stop : Stop) → value_of (position_of laid) stop ≤ 80
worth values laid stop =
    let hex = (joined_stop_of stop).hex in
    (elim (is_stop (joined_stop_of stop)) as (λ b. is_stop (joined_stop_of stop) ≡ b
    → value_of (position_of laid) stop ≤ 80) [
      | true ↦ λ is. subst (λ (s : AtStop). s.value ≤ 80) (sym (shown laid stop is))
          (value_low values laid.phase hex (tile_on laid.lays hex))
      | false ↦ λ is. subst (λ (s : AtStop). s.value ≤ 80) (sym (not_on_map laid stop is)) (lit≤ tt)
    ]) refl

-- the red areas
gulf_is_stop : is_stop (joined_stop_of (stop_at J2 First)) ≡ true
unfolding index_of hexes site_of groups plain_hexes print_of
gulf_is_stop = refl

gulf_is_red : is_red_kind (print_of J2).kind ≡ true
unfolding index_of hexes site_of groups plain_hexes print_of
gulf_is_red = refl

west_is_stop : is_stop (joined_stop_of (stop_at A11 First)) ≡ true
unfolding index_of hexes site_of groups plain_hexes print_of
west_is_stop = refl

west_is_red : is_red_kind (print_of A11).kind ≡ true
unfolding index_of hexes site_of groups plain_hexes print_of
west_is_red = refl

-- the links of a hex are those of its print, or of what is there
of_track : PrintedLinksAreInOrder → LaidLinksAreInOrder → (laid : MapState) (hex : Hex) (whole : Bool)
    → AreLinksOf hex (if whole then by_tile (printed_links_of hex) laid_links_of
    (tile_on laid.lays hex) else printed_links_of hex)
of_track printed laid_links laid hex true =
    of_tile printed laid_links hex (tile_on laid.lays hex) (λ lay e. lies_there laid.lays hex lay e)
of_track printed laid_links laid hex false = printed hex

pub lawful : NeighboursPair → PrintedLinksAreInOrder → LaidLinksAreInOrder → ValuesAreAtMost80 → (laid : MapState)
    → IsLawful (position_of laid)
lawful pair printed laid_links values laid =
    record {
      links = λ hex. subst (λ (h : InHex). AreLinksOf hex h.links) (sym (in_hex_is laid hex))
          (of_track printed laid_links laid hex (same_hex (joined_hex hex) hex));
      borders_pair = pair;
      values = worth values laid;
      gulf_is_red = ap (λ (s : AtStop). s.red) (shown laid (stop_at J2 First) gulf_is_stop) ∙ gulf_is_red;
      canadian_west_is_red = ap (λ (s : AtStop). s.red) (shown laid (stop_at A11 First) west_is_stop) ∙ west_is_red;
      parts_have_one_stop = parts_have_one_stop laid;
    }
