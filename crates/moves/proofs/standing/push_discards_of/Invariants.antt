-- The rows of the items so far.
use Rattle.std.proofs.Common.{◌≡◌, ◌++◌, map, take, flat_map}
use Rattle.moves.specs.StandingRows.{discard_of, standing_row}
use Rattle.moves.proofs.standing.push_discards_of.Given as goal

abbrev pub invariant-loop-kind : goal.invariant-loop-kind
invariant-loop-kind l =
    l.rows.items ≡ l.fn.rows.items
    ++ map (standing_row l.history.events l.seat) (flat_map (discard_of l.history.events l.seat l.company) (take l.kind-index l.kind-items))
