-- The rows of the items so far.
use Rattle.std.proofs.Common.{◌≡◌, ◌++◌, map, take, flat_map}
use Rattle.moves.specs.CompanyRows.{orders_of_private, private_row}
use Rattle.moves.proofs.company.push_privates.Given as goal

abbrev pub invariant-loop-private : goal.invariant-loop-private
invariant-loop-private l =
    l.rows.items ≡ l.fn.rows.items
    ++ map (private_row l.history l.company) (flat_map orders_of_private (take l.private-index l.private-items))
