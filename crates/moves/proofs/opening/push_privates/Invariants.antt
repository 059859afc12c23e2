-- The rows of the items so far.
use Rattle.std.proofs.Common.{◌≡◌, ◌++◌, map, take, flat_map}
use Rattle.moves.specs.OpeningRows.{opening_row, orders_on}
use Rattle.moves.proofs.opening.push_privates.Given as goal

abbrev pub invariant-loop-private : goal.invariant-loop-private
invariant-loop-private l =
    l.rows.items ≡ l.fn.rows.items
    ++ map (opening_row l.history l.seat l.used) (flat_map (orders_on l.history.events) (take l.private-index l.private-items))
