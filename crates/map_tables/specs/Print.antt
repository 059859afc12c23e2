-- What is printed on the hexes of the map. Each group of hexes with the same print has its kind,
-- the cost of its terrain, its track, and its stops with their value and the tokens that they take.
use Rattle.std.specs.Prelude.{ℕ, Bool, false, ◌||◌, List, [], ◌∷◌, ◌++◌, find, option_map, unwrap_or}
use Rattle.map_tables.specs.declared.hex.Hex.{Hex}
use Rattle.map_tables.specs.declared.hex.Hex.TheVariants.{
  A9,
  A11,
  A17,
  A19,
  B10,
  B12,
  B14,
  B16,
  B18,
  B20,
  B22,
  B24,
  C7,
  C9,
  C11,
  C13,
  C15,
  C17,
  C19,
  C21,
  C23,
  D2,
  D4,
  D6,
  D8,
  D10,
  D12,
  D14,
  D16,
  D18,
  D20,
  D22,
  D24,
  E3,
  E5,
  E7,
  E9,
  E11,
  E13,
  E15,
  E17,
  E19,
  E21,
  E23,
  F2,
  F4,
  F6,
  F8,
  F10,
  F12,
  F14,
  F16,
  F18,
  F20,
  F22,
  F24,
  G3,
  G5,
  G7,
  G9,
  G11,
  G13,
  G15,
  G17,
  G19,
  H2,
  H4,
  H6,
  H8,
  H10,
  H12,
  H14,
  H16,
  H18,
  I1,
  I3,
  I5,
  I7,
  I9,
  I11,
  I13,
  I15,
  I17,
  I19,
  J2,
  J4,
  J6,
  J8,
  J10,
  J12,
  J14,
  K13,
  K15,
}
use Rattle.map_tables.specs.declared.print.HexKind.{HexKind}
use Rattle.map_tables.specs.declared.print.HexKind.TheVariants.{Open, Grey, Red}
use Rattle.map_tables.specs.declared.print.PrintedValue.{PrintedValue}
use Rattle.map_tables.specs.declared.tiles.TileKind.{TileKind}
use Rattle.map_tables.specs.declared.tiles.TileKind.TheVariants.{Plain, Town, TwoTowns, City, CityB, CitiesNY, CitiesOO}
use Rattle.map_tables.specs.declared.tiles.Colour.{Colour}
use Rattle.map_tables.specs.declared.tiles.Colour.TheVariants.{White, Yellow}
use Rattle.map_tables.specs.declared.track.TrackSegment.{TrackSegment}
use Rattle.map_tables.specs.declared.track.Link.{Link}
use Rattle.map_tables.specs.Hex.{same_hex}
use Rattle.map_tables.specs.Track.{in_order, through, stop_track, links_in}
use Rattle.map_tables.specs.Tile.{stops_of_kind}

-- the printed hex
pub record Print : Type 0 where
  pub kind : HexKind
  pub cost : ℕ
  pub colour : Colour
  pub stops : ℕ
  pub slots : ℕ
  pub value : PrintedValue
  pub track : List TrackSegment

-- the value of a stop that does not change with the phase, and of one that does
abbrev pub always : ℕ → PrintedValue
always value = record { before_phase_five = value; from_phase_five = value }

-- how many tokens a city takes by its print; towns take none
abbrev pub slots_of_kind : TileKind → ℕ
slots_of_kind Plain = 0
slots_of_kind Town = 0
slots_of_kind TwoTowns = 0
slots_of_kind other = 1

-- the print of a hex: what its fields say, in their order, with the track put in order
abbrev print_with : HexKind → ℕ → Colour → ℕ → ℕ → PrintedValue → List TrackSegment → Print
print_with kind cost colour stops slots value track =
    record { kind = kind; cost = cost; colour = colour; stops = stops; slots = slots; value = value; track = in_order track }

-- a red area, whose stop takes no token: its value before and from phase 5, and the sides
abbrev red : ℕ → ℕ → List ℕ → Print
red before from sides =
    print_with Red 0 White 1 0 (record { before_phase_five = before; from_phase_five = from }) (stop_track sides [])

-- a grey hex: its stops, the tokens that each takes, its value and sides, and track past it
abbrev grey : ℕ → ℕ → ℕ → List ℕ → List TrackSegment → Print
grey stops slots value sides track = print_with Grey 0 White stops slots (always value) (stop_track sides [] ++ track)

-- a hex whose print is a yellow tile with cities: the value of each, and the sides of each
abbrev yellow : TileKind → ℕ → ℕ → List ℕ → List ℕ → Print
yellow kind cost value first second =
    print_with (Open kind) cost Yellow (stops_of_kind kind) (slots_of_kind kind) (always value) (stop_track first second)

-- a hex without track, whose stops are worth nothing until a tile lies
abbrev pub white : TileKind → ℕ → Print
white kind cost = print_with (Open kind) cost White (stops_of_kind kind) (slots_of_kind kind) (always 0) []

-- the plain hexes without cost of terrain
unfoldable pub plain_hexes : List Hex
plain_hexes =
    I13 ∷ D18 ∷ B12 ∷ B14 ∷ B22 ∷ C7 ∷ C9 ∷ C11 ∷ C13 ∷ C23 ∷ D8 ∷ D12 ∷ D16 ∷ D20 ∷ E3 ∷ E13 ∷
    E15 ∷ F8 ∷ F12 ∷ F14 ∷ F18 ∷ G3 ∷ G5 ∷ G9 ∷ G11 ∷ H2 ∷ H6 ∷ H8 ∷ H14 ∷ I3 ∷ I5 ∷ I7 ∷ I9 ∷
    J4 ∷ J6 ∷ J8 ∷ []

-- the prints of the map: some hexes, and the print that each of them has
unfoldable pub groups : List (List Hex × Print)
groups =
    -- red areas: the value before and from phase 5, and the sides
    (F2 ∷ [], red 40 70 (3 ∷ 4 ∷ 5 ∷ [])) ∷
    (J2 ∷ [], red 30 60 (3 ∷ 4 ∷ [])) ∷
    (I1 ∷ [], red 30 60 (4 ∷ [])) ∷
    (A11 ∷ [], red 30 50 (5 ∷ 0 ∷ [])) ∷
    (A9 ∷ [], red 30 50 (5 ∷ [])) ∷
    (K13 ∷ [], red 30 40 (2 ∷ 3 ∷ [])) ∷
    (B24 ∷ [], red 20 30 (1 ∷ 0 ∷ [])) ∷
    -- grey: stops, tokens, value, sides, and track past the stop
    (D2 ∷ [], grey 1 1 20 (5 ∷ 4 ∷ []) []) ∷
    (F6 ∷ [], grey 1 1 30 (5 ∷ 0 ∷ []) []) ∷
    (E9 ∷ [], grey 0 0 0 [] (through 2 3 ∷ [])) ∷
    (H12 ∷ [], grey 1 1 10 (1 ∷ 4 ∷ []) (through 1 4 ∷ [])) ∷
    (D14 ∷ [], grey 1 1 20 (1 ∷ 4 ∷ 0 ∷ []) []) ∷
    (C15 ∷ [], grey 1 0 10 (1 ∷ 3 ∷ []) []) ∷
    (K15 ∷ [], grey 1 1 20 (2 ∷ []) []) ∷
    (A17 ∷ [], grey 0 0 0 [] (through 0 5 ∷ [])) ∷
    (A19 ∷ [], grey 1 1 40 (5 ∷ 0 ∷ []) []) ∷
    (I19 ∷ F24 ∷ [], grey 1 0 10 (1 ∷ 2 ∷ []) []) ∷
    (D24 ∷ [], grey 0 0 0 [] (through 1 0 ∷ [])) ∷
    -- yellow print: kind, cost of terrain, value of each city, and the sides of each
    (I15 ∷ [], yellow CityB 0 30 (4 ∷ 0 ∷ []) []) ∷
    (E23 ∷ [], yellow CityB 0 30 (3 ∷ 5 ∷ []) []) ∷
    (G19 ∷ [], yellow CitiesNY 80 40 (3 ∷ []) (0 ∷ [])) ∷
    (E5 ∷ D10 ∷ [], yellow CitiesOO 80 0 [] []) ∷
    (E11 ∷ H18 ∷ [], yellow CitiesOO 0 0 [] []) ∷
    -- white, without track: the kind, and the cost of terrain
    (E19 ∷ H4 ∷ B10 ∷ H10 ∷ H16 ∷ B16 ∷ [], white City 0) ∷
    (F4 ∷ J14 ∷ F22 ∷ [], white City 80) ∷
    (F16 ∷ [], white City 120) ∷
    (E7 ∷ B20 ∷ D4 ∷ F10 ∷ [], white Town 0) ∷
    (G7 ∷ G17 ∷ F20 ∷ [], white TwoTowns 0) ∷
    (plain_hexes, white Plain 0) ∷
    (G15 ∷ C17 ∷ C21 ∷ D22 ∷ E17 ∷ E21 ∷ G13 ∷ I11 ∷ J10 ∷ J12 ∷ [], white Plain 120) ∷
    (D6 ∷ I17 ∷ B18 ∷ C19 ∷ [], white Plain 80) ∷
    []

-- whether a hex is among some
abbrev pub is_one_of : Hex → List Hex → Bool
is_one_of hex [] = false
is_one_of hex (h ∷ hs) = same_hex h hex || is_one_of hex hs

-- the print of a hex: that of the group that it is in
unfoldable pub print_of : Hex → Print
print_of hex =
    unwrap_or (option_map (λ (group : List Hex × Print). group.1)
    (find (λ (group : List Hex × Print). is_one_of hex group.0) groups)) (white Plain 0)

-- the links that the print gives a hex
unfoldable pub printed_links_of : Hex → List Link
printed_links_of hex = links_in hex (print_of hex).track
