-- The stock market. Each square has a price, and some lie in a zone: y is yellow, o orange, b
-- brown. p marks the par values, w a square without a mark, and x is no square.
use Rattle.std.specs.Prelude.{ℕ, zero, suc, ◌+◌, ◌==◌, Bool, true, false, if◌then◌else◌, List, [], ◌∷◌, ◌++◌, map}
use Rattle.std.specs.Prelude.{Option, Some, None, slice_get, unwrap_or, is_some, find, reverse, drop}
use Rattle.tables.specs.declared.chart.Entry.{Entry}
use Rattle.tables.specs.declared.squares.Square.{Square}
use Rattle.tables.specs.declared.squares.Zone.{Zone}
use Rattle.tables.specs.declared.squares.Zone.TheVariants.{White, Yellow, Orange, Brown}

-- the greatest price of the chart, in dollars
abbrev pub price_most : ℕ
price_most = 350

-- a square of this zone and price, which is no par value
abbrev in_zone : Zone → ℕ → Option Entry
in_zone zone price = Some (record { price = price; zone = zone; is_par = false })

-- a square without a mark
abbrev w : ℕ → Option Entry
w price = in_zone White price

-- a square in the yellow zone
abbrev y : ℕ → Option Entry
y price = in_zone Yellow price

-- a square in the orange zone
abbrev o : ℕ → Option Entry
o price = in_zone Orange price

-- a square in the brown zone
abbrev b : ℕ → Option Entry
b price = in_zone Brown price

-- a square that is marked as a par value
abbrev p : ℕ → Option Entry
p price = Some (record { price = price; zone = White; is_par = true })

-- no square
abbrev x : Option Entry
x = None

-- the rows of the chart, A to K downwards; each from column 1
abbrev pub chart : List (List (Option Entry))
chart =
    (y 60 ∷ w 67 ∷ w 71 ∷ w 76 ∷ w 82 ∷ w 90 ∷ p 100 ∷ w 112 ∷ w 126 ∷ w 142 ∷ w 160 ∷ w 180 ∷ w 200 ∷ w 225 ∷ w 250
    ∷ w 275 ∷ w 300 ∷ w 325 ∷ w 350 ∷ [])
    ∷ (y 53 ∷ y 60 ∷ w 66 ∷ w 70 ∷ w 76 ∷ w 82 ∷ p 90 ∷ w 100 ∷ w 112 ∷ w 126 ∷ w 142 ∷ w 160 ∷ w 180 ∷ w 200 ∷ w 220
    ∷ w 240 ∷ w 260 ∷ w 280 ∷ w 300 ∷ [])
    ∷ (y 46 ∷ y 55 ∷ y 60 ∷ w 65 ∷ w 70 ∷ w 76 ∷ p 82 ∷ w 90 ∷ w 100 ∷ w 111 ∷ w 125 ∷ w 140 ∷ w 155 ∷ w 170 ∷ w 185
    ∷ w 200 ∷ [])
    ∷ (o 39 ∷ y 48 ∷ y 54 ∷ y 60 ∷ w 66 ∷ w 71 ∷ p 76 ∷ w 82 ∷ w 90 ∷ w 100 ∷ w 110 ∷ w 120 ∷ w 130 ∷ [])
    ∷ (o 32 ∷ o 41 ∷ y 48 ∷ y 55 ∷ w 62 ∷ w 67 ∷ p 71 ∷ w 76 ∷ w 82 ∷ w 90 ∷ w 100 ∷ [])
    ∷ (b 25 ∷ o 34 ∷ o 42 ∷ y 50 ∷ y 58 ∷ w 65 ∷ p 67 ∷ w 71 ∷ w 75 ∷ w 80 ∷ [])
    ∷ (b 18 ∷ b 27 ∷ o 36 ∷ o 45 ∷ y 54 ∷ w 63 ∷ w 67 ∷ w 69 ∷ w 70 ∷ [])
    ∷ (b 10 ∷ b 20 ∷ b 30 ∷ o 40 ∷ y 50 ∷ y 60 ∷ w 67 ∷ w 68 ∷ [])
    ∷ (x ∷ b 10 ∷ b 20 ∷ b 30 ∷ o 40 ∷ y 50 ∷ y 60 ∷ [])
    ∷ (x ∷ x ∷ b 10 ∷ b 20 ∷ b 30 ∷ o 40 ∷ y 50 ∷ [])
    ∷ (x ∷ x ∷ x ∷ b 10 ∷ b 20 ∷ b 30 ∷ o 40 ∷ [])
    ∷ []

-- the squares of a row of the chart, from column 1
abbrev pub row_at : ℕ → List (Option Entry)
row_at row = unwrap_or (slice_get chart row) []

-- what a row has at a column
abbrev pub entry_in : List (Option Entry) → ℕ → Option Entry
entry_in row zero = None
entry_in row (suc before) = unwrap_or (slice_get row before) None

-- what the chart has at a row and a column
abbrev pub entry_at : ℕ → ℕ → Option Entry
entry_at row column = entry_in (row_at row) column

-- the square at a row and a column, if there is one
abbrev pub square_at : ℕ → ℕ → Option Square
square_at row column =
    if is_some (entry_at row column) then Some (record { row = row; column = column }) else None

-- a square is one of the chart's
abbrev pub is_on_chart : Square → Bool
is_on_chart square = is_some (entry_at square.row square.column)

-- the price of an entry; 0 if there is none
abbrev pub price_in : Option Entry → ℕ
price_in None = 0
price_in (Some entry) = entry.price

-- the price of a square; 0 off the chart
abbrev pub price_of : Square → ℕ
price_of square = price_in (entry_at square.row square.column)

-- the zone in which a square lies; white off the chart
abbrev pub zone_of : Square → Zone
zone_of square = elim (entry_at square.row square.column) [ Some entry ↦ entry.zone | None ↦ White ]

-- an entry is marked as a par value
abbrev pub is_par : Option Entry → Bool
is_par None = false
is_par (Some entry) = entry.is_par

-- the squares of a row that are marked as par values, from a column on
abbrev pub par_squares_in : ℕ → ℕ → List (Option Entry) → List Square
par_squares_in row column [] = []
par_squares_in row column (entry ∷ others) =
    if is_par entry then record { row = row; column = column } ∷ par_squares_in row (column + 1) others else
    par_squares_in row (column + 1) others

-- the squares of some rows that are marked as par values
abbrev pub par_squares_from : ℕ → List (List (Option Entry)) → List Square
par_squares_from row [] = []
par_squares_from row (entries ∷ rows) = par_squares_in row 1 entries ++ par_squares_from (row + 1) rows

-- the squares that are marked as par values, from the upper row on
abbrev pub par_squares : List Square
par_squares = par_squares_from 0 chart

-- the square of a par value: that which is marked and has this price
abbrev pub par_square_of : ℕ → Option Square
par_square_of par = find (λ square. price_of square == par) par_squares

-- the par value that is marked in a row, in the column of par values
abbrev pub par_value_of : ℕ → Option ℕ
par_value_of row =
    if is_par (entry_in (row_at row) 7) then Some (price_in (entry_in (row_at row) 7)) else None

-- the par values of a row and of those below it, from the least, in dollars: the upper six rows have one each
abbrev pub par_values_from : ℕ → List ℕ
par_values_from row = map price_of (reverse (drop row par_squares))

-- the par values, from the least, in dollars
abbrev pub par_values : List ℕ
par_values = par_values_from 0

-- the least par value, in dollars
abbrev pub least_par : ℕ
least_par = 67
