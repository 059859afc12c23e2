-- Seats: their numbers, and the order round the table.
use Rattle.std.specs.Prelude.{ℕ, zero, suc, ◌+◌, nat_lt, min, if◌then◌else◌, List, [], ◌∷◌, map}
use Rattle.std.specs.List.{range_with_len}
use Rattle.tables.specs.declared.seat.Seat.{Seat}

-- the seat with this number
abbrev pub seat_at : ℕ → Seat
seat_at number = record { 0 = number }

-- the seats of a table, in the order of the players line
abbrev pub all_seats : ℕ → List Seat
all_seats seats = map seat_at (range_with_len 0 seats)

-- the seat at the left of a seat: the next, and after the last the first; no seat has a number over
-- 255
abbrev pub left_of : ℕ → Seat → Seat
left_of seats seat = if nat_lt (seat.0 + 1) (min seats 256) then seat_at (seat.0 + 1) else seat_at 0

-- this many seats to the left, beginning with this one
abbrev pub seats_from : ℕ → ℕ → Seat → List Seat
seats_from seats zero seat = []
seats_from seats (suc count) seat = seat ∷ seats_from seats count (left_of seats seat)
