-- The rows of the items so far.
use Rattle.std.proofs.Common.{◌≡◌, ◌++◌, map, take, flat_map}
use Rattle.moves.specs.StandingRows.{private_offers_of, standing_row}
use Rattle.moves.proofs.standing.push_private_offers.Given as goal

abbrev pub invariant-loop-private : goal.invariant-loop-private
invariant-loop-private l =
    l.rows.items ≡ l.fn.rows.items
    ++ map (standing_row l.history.events l.seat) (flat_map (private_offers_of l.history.events l.seat) (take l.private-index l.private-items))
