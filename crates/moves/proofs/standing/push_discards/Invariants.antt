-- The rows of the items so far.
use Rattle.std.proofs.Common.{◌≡◌, ◌++◌, map, take, flat_map}
use Rattle.moves.specs.StandingRows.{discards_of, standing_row}
use Rattle.moves.proofs.standing.push_discards.Given as goal

abbrev pub invariant-loop-company : goal.invariant-loop-company
invariant-loop-company l =
    l.rows.items ≡ l.fn.rows.items
    ++ map (standing_row l.history.events l.seat) (flat_map (discards_of l.history.events l.seat) (take l.company-index l.company-items))
