-- The rows of the items so far.
use Rattle.std.proofs.Common.{◌≡◌, ◌++◌, map, take, flat_map}
use Rattle.moves.specs.StandingRows.{before_row, limit_on}
use Rattle.moves.proofs.standing.push_limits.Given as goal

abbrev pub invariant-loop-private : goal.invariant-loop-private
invariant-loop-private l =
    l.rows.items ≡ l.fn.rows.items
    ++ map (before_row l.history.events) (flat_map (limit_on l.history.events l.seat) (take l.private-index l.private-items))
