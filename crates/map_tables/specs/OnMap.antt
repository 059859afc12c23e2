-- What lies on the map by a list of tiles and a list of tokens that were laid, each oldest first.
-- The last tile that was laid on a hex lies there; those before it are back in the stock. Where no
-- tile lies, the hex shows its print.
use Rattle.std.specs.Prelude.{ℕ, ◌==◌, ◌&&◌, Bool, false, nat_lt, if◌then◌else◌, List, map, reverse, Option, Some, None}
use Rattle.std.specs.List.{count_by, filter, find, list_any}
use Rattle.map_tables.specs.Hex.{same_hex}
use Rattle.map_tables.specs.Lay.{laid_links_of}
use Rattle.map_tables.specs.Place.{joined_stop_of, stop_index_of, stop_of_place}
use Rattle.map_tables.specs.Print.{print_of, printed_links_of}
use Rattle.map_tables.specs.Tile.{entry_of}
use Rattle.map_tables.specs.declared.hex.Hex.{Hex}
use Rattle.map_tables.specs.declared.lay.Lay.{Lay}
use Rattle.map_tables.specs.declared.place.Place.{Place}
use Rattle.map_tables.specs.declared.place.Stop.{Stop}
use Rattle.map_tables.specs.declared.tiles.Colour.{Colour}
use Rattle.map_tables.specs.declared.track.Link.{Link}
use Rattle.tables.specs.Roster.{same_company}
use Rattle.tables.specs.declared.roster.Company.{Company}

-- the tile that lies on a hex: the last that was laid there
unfoldable pub tile_on : List Lay → Hex → Option Lay
tile_on lays hex = find (λ lay. same_hex lay.hex hex) (reverse lays)

-- what the print shows, or what the tile shows that lies on it
abbrev pub by_tile : {A : Type 0} → A → (Lay → A) → Option Lay → A
by_tile printed laid None = printed
by_tile printed laid (Some lay) = laid lay

-- the links of a hex
abbrev pub links_on : List Lay → Hex → List Link
links_on lays hex = by_tile (printed_links_of hex) laid_links_of (tile_on lays hex)

-- the colour of a hex
abbrev pub colour_on : List Lay → Hex → Colour
colour_on lays hex = by_tile (print_of hex).colour (λ lay. (entry_of lay.tile).colour) (tile_on lays hex)

-- how many tokens each of its stops takes
abbrev pub slots_on : List Lay → Hex → ℕ
slots_on lays hex = by_tile (print_of hex).slots (λ lay. (entry_of lay.tile).slots) (tile_on lays hex)

-- whether a hex has a stop of this number; no tile changes how many it has
abbrev pub is_stop : Stop → Bool
is_stop stop = nat_lt (stop_index_of stop.number) (print_of stop.hex).stops

-- how many tokens a stop takes; none if there is no such stop
abbrev pub slots_at : List Lay → Stop → ℕ
slots_at lays stop =
    let joined = joined_stop_of stop in if is_stop joined then slots_on lays joined.hex else 0

-- whether two stops are one
abbrev pub same_stop : Stop → Stop → Bool
same_stop a b = same_hex a.hex b.hex && stop_index_of a.number == stop_index_of b.number

-- whether a stop, if there is one, is part of this one
abbrev pub is_part_of : Stop → Option Stop → Bool
is_part_of stop None = false
is_part_of stop (Some part) = same_stop (joined_stop_of part) stop

-- whether a place names a stop, or a part of it
abbrev pub names : Stop → Place → Bool
names stop place = is_part_of stop (stop_of_place place)

-- the companies whose tokens lie at a stop
abbrev pub tokens_at : List (Place × Company) → Stop → List Company
tokens_at tokens stop = map (λ token. token.1) (filter (λ token. names stop token.0) tokens)

-- how many tokens name a stop
abbrev pub taken_at : List (Place × Company) → Stop → ℕ
taken_at tokens stop = count_by (λ token. names (joined_stop_of stop) token.0) tokens

-- whether a company has a token there
abbrev pub has_token : List (Place × Company) → Stop → Company → Bool
has_token tokens stop company = list_any (λ token. names stop token.0 && same_company token.1 company) tokens
