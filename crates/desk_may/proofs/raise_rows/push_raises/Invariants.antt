-- the rows of the companies so far
use Rattle.std.proofs.Common.{◌≡◌, ◌++◌, map, take, flat_map}
use Rattle.desk_may.specs.RaiseRows.{raise_row, raises_of}
use Rattle.desk_may.proofs.raise_rows.push_raises.Given as goal

abbrev pub invariant-loop-company : goal.invariant-loop-company
invariant-loop-company l =
    l.rows.items ≡ l.fn.rows.items
    ++ map (raise_row l.history l.by) (flat_map (raises_of l.history.events l.by.president) (take l.company-index l.company-items))
