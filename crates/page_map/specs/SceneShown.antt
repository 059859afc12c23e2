-- Whose names a page shows, and who owes a sheet for the round that comes, seat by seat of the six that there may be.
use Rattle.std.specs.Prelude.{ℕ, Bool, false, ◌&&◌, is_none, nat_lt, List, length, map}
use Rattle.std.specs.List.{range_with_len}
use Rattle.report.specs.Line.{name_of}
use Rattle.rounds.specs.declared.game.End.{End}
use Rattle.rounds.specs.declared.game.End.TheVariants.{Awaiting}
use Rattle.sheets.specs.File.{players_of, sheet_of}
use Rattle.tables.specs.Seat.{seat_at}

-- the names of the players; no letters for an empty seat
abbrev pub names_in : List ℕ → List (List ℕ)
names_in file = map (λ seat. name_of file (seat_at seat)) (range_with_len 0 6)

-- the player of a seat has sent no sheet for the round that comes, if one does
abbrev pub owes_at : List ℕ → End → ℕ → Bool
owes_at file (Awaiting round) seat = nat_lt seat (length (players_of file)) && is_none (sheet_of file seat round)
owes_at file over seat = false

-- who owes a sheet
abbrev pub owing_in : List ℕ → End → List Bool
owing_in file end = map (owes_at file end) (range_with_len 0 6)
