-- How the code finds a hex by its row and column: it counts the columns from the first hex of the
-- row.
use Rattle.std.specs.Prelude.{ℕ, ◌+◌, ◌-◌, ◌/◌, ◌==◌, ◌&&◌, nat_lt, if◌then◌else◌, Option, Some, None, option_and_then}
use Rattle.std.specs.Prelude.{slice_index_or}
use Rattle.map_tables.specs.declared.hex.Hex.{Hex}
use Rattle.map_tables.specs.declared.hex.Hex.TheVariants.{A9, A17, B10, C7, D2, E3, F2, G3, H2, I1, J2, K13}
use Rattle.map_tables.specs.Hex.{hexes, index_of, column_of}

-- the first hex of a row with no gap between it and a column: row A has a gap
abbrev pub first_at : ℕ → ℕ → Option Hex
first_at row column =
    if row == 65 && nat_lt column 17 then Some A9 else if row == 65 then Some A17 else if row == 66 then Some B10 else
    if row == 67 then Some C7 else if row == 68 then Some D2 else if row == 69 then Some E3 else
    if row == 70 then Some F2 else if row == 71 then Some G3 else if row == 72 then Some H2 else
    if row == 73 then Some I1 else if row == 74 then Some J2 else if row == 75 then Some K13 else None

-- the hex that is half as many hexes on as it is columns
abbrev pub hex_from : ℕ → Hex → Option Hex
hex_from column first =
    let place = index_of first + (column - column_of first) / 2 in
    if nat_lt place 93 then Some (slice_index_or hexes place A9) else None

abbrev pub guess_at : ℕ → ℕ → Option Hex
guess_at row column = option_and_then (hex_from column) (first_at row column)
