-- The rows of the items so far.
use Rattle.std.proofs.Common.{◌≡◌, ◌++◌, map, take, flat_map}
use Rattle.moves.specs.StandingRows.{private_offer, standing_row}
use Rattle.moves.proofs.standing.push_private_offers_of.Given as goal

abbrev pub invariant-loop-buyer : goal.invariant-loop-buyer
invariant-loop-buyer l =
    l.rows.items ≡ l.fn.rows.items
    ++ map (standing_row l.history.events l.seat) (flat_map (private_offer l.history.events l.seat l.private) (take l.buyer-index l.buyer-items))
