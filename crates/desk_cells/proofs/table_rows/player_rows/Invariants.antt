use Rattle.std.proofs.Common.{◌≡◌, take}
use Rattle.std.specs.List.{flat_map}
use Rattle.desk_cells.specs.TableRows.{player_if}
use Rattle.desk_cells.proofs.table_rows.player_rows.Given as goal

-- the rows of the seats so far
abbrev pub invariant-loop-seat : goal.invariant-loop-seat
invariant-loop-seat l =
    l.rows.items ≡ flat_map (player_if l.history l.before l.players) (take l.seat-index l.seat-items)
