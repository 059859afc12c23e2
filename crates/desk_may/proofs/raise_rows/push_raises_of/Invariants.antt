-- the rows of the numbers so far
use Rattle.std.proofs.Common.{◌≡◌, ◌++◌, map, take, flat_map}
use Rattle.desk_may.specs.RaiseRows.{raise_if_held, raise_row}
use Rattle.desk_may.proofs.raise_rows.push_raises_of.Given as goal

abbrev pub invariant-loop-shares : goal.invariant-loop-shares
invariant-loop-shares l =
    l.rows.items ≡ l.fn.rows.items
    ++ map (raise_row l.history l.by) (flat_map (raise_if_held l.history.events l.by.president l.company) (take l.shares-index l.shares-items))
