-- The texts that name hexes, places, tiles and rotations in order sheets and reports, and what a
-- text in upper case names.
use Rattle.std.specs.Prelude.{◌≡◌, ◌↔◌, ℕ, ◌+◌, ◌*◌, ◌-◌, ◌==◌, Bool, ◌&&◌, nat_lt, nat_le, if◌then◌else◌, List, []}
use Rattle.std.specs.Prelude.{◌∷◌, ◌++◌, length, take, drop, decimal, Option, Some, None, option_and_then}
use Rattle.map_tables.specs.Hex.{column_of, hex_at, row_of}
use Rattle.map_tables.specs.Place.{stop_index_of}
use Rattle.map_tables.specs.Side.{rotation_of, sixths_turned}
use Rattle.map_tables.specs.Tile.{number_of_tile, tile_numbered}
use Rattle.map_tables.specs.declared.hex.Hex.{Hex}
use Rattle.map_tables.specs.declared.place.Place.{Place}
use Rattle.map_tables.specs.declared.place.StopNumber.{StopNumber}
use Rattle.map_tables.specs.declared.place.StopNumber.TheVariants.{First, Second}
use Rattle.map_tables.specs.declared.side.Rotation.{Rotation}
use Rattle.map_tables.specs.declared.tiles.TileNo.{TileNo}

-- a hex: the letter of its row, and its column
abbrev pub text_of_hex : Hex → List ℕ
text_of_hex hex = row_of hex ∷ decimal (column_of hex)

-- the number of a stop after its hex, if a place names one
abbrev pub stop_text : Option StopNumber → List ℕ
stop_text None = []
stop_text (Some number) = 46 ∷ decimal (stop_index_of number)

-- a place: a hex, or a stop of one
abbrev pub text_of_place : Place → List ℕ
text_of_place place = text_of_hex place.hex ++ stop_text place.stop

-- a tile: its number
abbrev pub text_of_tile : TileNo → List ℕ
text_of_tile tile = decimal (number_of_tile tile)

-- a rotation: how many sixths of a turn it is
abbrev pub text_of_rotation : Rotation → List ℕ
text_of_rotation rotation = decimal (sixths_turned rotation)

-- a byte is a digit
abbrev pub is_digit : ℕ → Bool
is_digit byte = nat_le 48 byte && nat_le byte 57

-- the number less than 100 of one or two digits, without leading zeros
abbrev pub short_number : List ℕ → Option ℕ
short_number (ones ∷ []) = if is_digit ones then Some (ones - 48) else None
short_number (tens ∷ ones ∷ []) =
    if nat_lt 48 tens && (is_digit tens && is_digit ones) then Some ((tens - 48) * 10 + (ones - 48)) else None
short_number other = None

-- the hex that a text names
abbrev pub hex_of_text : List ℕ → Option Hex
hex_of_text [] = None
hex_of_text (row ∷ digits) = option_and_then (hex_at row) (short_number digits)

-- the number of a stop after its hex
abbrev pub stop_of_text : List ℕ → Option StopNumber
stop_of_text (point ∷ digit ∷ []) =
    if point == 46 && digit == 48 then Some First else if point == 46 && digit == 49 then Some Second else None
stop_of_text other = None

-- a stop of a hex, if there are both
abbrev pub place_from : Option Hex → Option StopNumber → Option Place
place_from (Some hex) (Some number) = Some (record { hex = hex; stop = Some number })
place_from hex number = None

-- the place that a text names: a hex, or one with the number of a stop after it
abbrev pub place_of_text : List ℕ → Option Place
place_of_text text =
    elim (hex_of_text text) [
      | Some hex ↦ Some (record { hex = hex; stop = None })
      | None ↦ place_from (hex_of_text (take (length text - 2) text)) (stop_of_text (drop (length text - 2) text))
    ]

-- the tile that a text names
abbrev pub tile_of_text : List ℕ → Option TileNo
tile_of_text text = option_and_then tile_numbered (short_number text)

-- the rotation that a text names
abbrev pub rotation_of_text : List ℕ → Option Rotation
rotation_of_text text = option_and_then rotation_of (short_number text)

-- a text names something exactly if it is its text
pub record TextsAreRead : Type 0 where
  pub hexes : (text : List ℕ) (hex : Hex) → (hex_of_text text ≡ Some hex) ↔ (text ≡ text_of_hex hex)
  pub places : (text : List ℕ) (place : Place) → (place_of_text text ≡ Some place) ↔ (text ≡ text_of_place place)
  pub tiles : (text : List ℕ) (tile : TileNo) → (tile_of_text text ≡ Some tile) ↔ (text ≡ text_of_tile tile)
  pub rotations : (text : List ℕ) (rotation : Rotation)
      → (rotation_of_text text ≡ Some rotation) ↔ (text ≡ text_of_rotation rotation)
