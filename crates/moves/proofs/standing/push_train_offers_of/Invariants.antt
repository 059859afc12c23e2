-- The rows of the items so far.
use Rattle.std.proofs.Common.{◌≡◌, ◌++◌, map, take, flat_map}
use Rattle.moves.specs.StandingRows.{offers_of_kind, standing_row}
use Rattle.moves.proofs.standing.push_train_offers_of.Given as goal

abbrev pub invariant-loop-kind : goal.invariant-loop-kind
invariant-loop-kind l =
    l.rows.items ≡ l.fn.rows.items
    ++ map (standing_row l.history.events l.seat) (flat_map (offers_of_kind l.history.events l.seat l.seller) (take l.kind-index l.kind-items))
