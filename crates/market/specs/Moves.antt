-- Moves over the chart. Right goes to the next square of the row, and from the row's right end up;
-- left to the one before, and from the left end down. A move to no square is not made. A fall by a
-- number of squares is this many single moves down.
use Rattle.std.specs.Prelude.{◌≡◌, ℕ, zero, suc, ◌+◌, true, Option, None, unwrap_or}
use Rattle.tables.specs.Chart.{is_on_chart, square_at}
use Rattle.tables.specs.Steps.{iterate}
use Rattle.tables.specs.declared.squares.Square.{Square}

-- the next square of the row
abbrev pub at_right : Square → Option Square
at_right square = square_at square.row (square.column + 1)

-- the square of a row before a column
abbrev square_before : ℕ → ℕ → Option Square
square_before row zero = None
square_before row (suc column) = square_at row column

-- the square before it in the row
abbrev pub at_left : Square → Option Square
at_left square = square_before square.row square.column

-- the square of a column in the row above a row
abbrev over : ℕ → ℕ → Option Square
over zero column = None
over (suc row) column = square_at row column

-- the square of its column in the row above
abbrev pub above : Square → Option Square
above square = over square.row square.column

-- the square of its column in the row below
abbrev pub below : Square → Option Square
below square = square_at (square.row + 1) square.column

-- where a move up leads
abbrev pub up_of : Square → Square
up_of square = unwrap_or (above square) square

-- where a move down leads
abbrev pub down_of : Square → Square
down_of square = unwrap_or (below square) square

-- where a move right leads
abbrev pub right_of : Square → Square
right_of square = unwrap_or (at_right square) (up_of square)

-- where a move left leads
abbrev pub square_left_of : Square → Square
square_left_of square = unwrap_or (at_left square) (down_of square)

-- where this many moves down lead
abbrev pub fallen : ℕ → Square → Square
fallen squares square = iterate down_of squares square

-- a move leads from squares of the chart to squares of the chart
abbrev pub StaysOnChart : (Square → Square) → Type 0
StaysOnChart move = (square : Square) → is_on_chart square ≡ true → is_on_chart (move square) ≡ true
