-- The rows of the items so far.
use Rattle.std.proofs.Common.{◌≡◌, ◌++◌, map, take, flat_map}
use Rattle.moves.specs.StandingRows.{standing_row, train_offer}
use Rattle.moves.proofs.standing.push_offers_of_kind.Given as goal

abbrev pub invariant-loop-buyer : goal.invariant-loop-buyer
invariant-loop-buyer l =
    l.rows.items ≡ l.fn.rows.items
    ++ map (standing_row l.history.events l.seat) (flat_map (train_offer l.history.events l.seat l.seller l.kind) (take l.buyer-index l.buyer-items))
