-- Each pass brings a seat one nearer to its turn.
use Rattle.std.proofs.Common.{◌≡◌, ℕ, suc, ◌+◌, ◌-◌, ◌<◌, ◌≤◌, if◌then◌else◌, nat_le, arith}
use Rattle.std.proofs.lemmas.Bool.Decides.{nat_tests}
use Rattle.tables.specs.Seat.{left_of}
use Rattle.tables.specs.declared.seat.Seat.{Seat}

-- how many seats pass from one to another, to the left
abbrev pub distance : ℕ → ℕ → ℕ → ℕ
distance seats next seat = if nat_le next seat then seat - next else seats - next + seat

-- it is less than there are seats
pub distance_few : (seats next seat : ℕ) → next < seats → seat < seats → distance seats next seat < seats
distance_few seats next seat at_table its = grind (arith, nat_tests)

-- the seat at the left of one at the table is at the table
pub left_within : (seats : ℕ) (next : Seat) → seats ≤ 6 → next.0 < seats → (left_of seats next).0 < seats
left_within seats next few at_table = grind (arith, nat_tests)

-- and one nearer to any other
pub nearer : (seats : ℕ) (next : Seat) (seat : ℕ) → seats ≤ 6 → next.0 < seats → seat < seats → (next.0 ≡ seat → ⊥)
    → suc (distance seats (left_of seats next).0 seat) ≡ distance seats next.0 seat
nearer seats next seat few at_table its other = grind (arith, nat_tests)
