-- Each move leads from the chart to the chart.
use Rattle.std.proofs.Common.{◌≡◌, ℕ, zero, suc, ◌+◌, Bool, true, false, if◌then◌else◌, Some, None, is_some, unwrap_or}
use Rattle.std.proofs.Common.{refl}
use Rattle.market.specs.Moves.{StaysOnChart, above, at_left, down_of, fallen, square_left_of, right_of, up_of}
use Rattle.tables.specs.Chart.{entry_at, is_on_chart, square_at}
use Rattle.tables.specs.declared.squares.Square.{Square}

-- a square of the chart, or else another square of it, is on the chart
on_chart_or : (row column : ℕ) (other : Square) → is_on_chart other ≡ true
    → is_on_chart (unwrap_or (square_at row column) other) ≡ true
on_chart_or row column other on =
    elim (is_some (entry_at row column)) as (λ (b : Bool). is_some (entry_at row column) ≡ b
    → is_on_chart (unwrap_or (if b then Some (record { row = row; column = column }) else None) other) ≡ true) [
      | true ↦ λ found. found
      | false ↦ λ none. on
    ]
    refl

-- the square above, or else another
above_or : (row column : ℕ) (other : Square) → is_on_chart other ≡ true
    → is_on_chart (unwrap_or (above (record { row = row; column = column })) other) ≡ true
above_or zero column other on = on
above_or (suc row) column other on = on_chart_or row column other on

-- the square at the left, or else another
at_left_or : (row column : ℕ) (other : Square) → is_on_chart other ≡ true
    → is_on_chart (unwrap_or (at_left (record { row = row; column = column })) other) ≡ true
at_left_or row zero other on = on
at_left_or row (suc column) other on = on_chart_or row column other on

-- a move up
pub up_stays : StaysOnChart up_of
up_stays square on = above_or square.row square.column square on

-- a move down
pub down_stays : StaysOnChart down_of
down_stays square on = on_chart_or (square.row + 1) square.column square on

-- a move right
pub right_stays : StaysOnChart right_of
right_stays square on = on_chart_or square.row (square.column + 1) (up_of square) (up_stays square on)

-- a move left
pub left_stays : StaysOnChart square_left_of
left_stays square on = at_left_or square.row square.column (down_of square) (down_stays square on)

-- moves down
pub fall_stays : (squares : ℕ) → StaysOnChart (fallen squares)
fall_stays zero square on = on
fall_stays (suc squares) square on = down_stays (fallen squares square) (fall_stays squares square on)
