-- The rows of the items so far.
use Rattle.std.proofs.Common.{◌≡◌, ◌++◌, map, take, flat_map}
use Rattle.moves.specs.CompanyRows.{train_of, train_row}
use Rattle.moves.proofs.company.push_trains_of_sellers.Given as goal

abbrev pub invariant-loop-seller : goal.invariant-loop-seller
invariant-loop-seller l =
    l.rows.items ≡ l.fn.rows.items
    ++ map (train_row l.history l.company) (flat_map (train_of l.history.events l.kind) (take l.seller-index l.seller-items))
