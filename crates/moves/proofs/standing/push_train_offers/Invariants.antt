-- The rows of the items so far.
use Rattle.std.proofs.Common.{◌≡◌, ◌++◌, map, take, flat_map}
use Rattle.moves.specs.StandingRows.{standing_row, train_offers_of}
use Rattle.moves.proofs.standing.push_train_offers.Given as goal

abbrev pub invariant-loop-seller : goal.invariant-loop-seller
invariant-loop-seller l =
    l.rows.items ≡ l.fn.rows.items
    ++ map (standing_row l.history.events l.seat) (flat_map (train_offers_of l.history.events l.seat) (take l.seller-index l.seller-items))
