-- Example for the chapter `market`: moves on the chart.
-- A square is a row, 0 for A, and a column. F7 is the square of the par 67.
use Rattle.std.proofs.Common.{◌≡◌, refl, ℕ}
use Rattle.market.specs.Moves.{fallen, right_of, square_left_of, up_of}
use Rattle.tables.specs.Chart.{price_of}
use Rattle.tables.specs.declared.squares.Square.{Square}

abbrev square : ℕ → ℕ → Square
square row column = record { row = row; column = column }

-- from F7 a token moves left to F6, at 65, and right to F8, at 71
pub left_of_f7 : square_left_of (square 5 7) ≡ square 5 6
left_of_f7 = refl

pub price_of_f6 : price_of (square 5 6) ≡ 65
price_of_f6 = refl

pub right_of_f7 : right_of (square 5 7) ≡ square 5 8
right_of_f7 = refl

pub price_of_f8 : price_of (square 5 8) ≡ 71
price_of_f8 = refl

-- three shares sold at A7 bring it to D7, and up from D7 is C7
pub three_down : fallen 3 (square 0 7) ≡ square 3 7
three_down = refl

pub up_from_d7 : up_of (square 3 7) ≡ square 2 7
up_from_d7 = refl

-- at the right end of a row right is up, at the left end left is down
pub right_end : right_of (square 2 16) ≡ square 1 16
right_end = refl

pub left_end : square_left_of (square 0 1) ≡ square 1 1
left_end = refl

-- a move that the chart has no square for is not made: right from A19, left from K4
pub dearest : right_of (square 0 19) ≡ square 0 19
dearest = refl

pub cheapest : square_left_of (square 10 4) ≡ square 10 4
cheapest = refl
