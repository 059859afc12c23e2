-- The rows of the items so far.
use Rattle.std.proofs.Common.{◌≡◌, ◌++◌, map, take, flat_map}
use Rattle.moves.specs.CompanyRows.{train_row, trains_of_kind}
use Rattle.moves.proofs.company.push_trains.Given as goal

abbrev pub invariant-loop-kind : goal.invariant-loop-kind
invariant-loop-kind l =
    l.rows.items ≡ l.fn.rows.items
    ++ map (train_row l.history l.company) (flat_map (trains_of_kind l.history.events) (take l.kind-index l.kind-items))
