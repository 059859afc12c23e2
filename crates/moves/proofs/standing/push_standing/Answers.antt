use Rattle.std.proofs.Common.{◌++◌}
use Rattle.moves.proofs.RowLemmas.{rows_both}
use Rattle.moves.specs.StandingRows.{discards, private_offers, standing_orders, standing_row, train_offers}
use Rattle.moves.proofs.standing.push_standing.Goals as goal

pub returns : goal.returns
unfolding standing_orders
returns c =
    let events = c.args.history.now.events in
    let seat = c.args.seat in
    rows_both (standing_row events seat) (discards events seat) (train_offers events seat ++ private_offers events seat)
    _ _ _ c.in_ok-push_discards.ensures
    (rows_both (standing_row events seat) (train_offers events seat) (private_offers events seat) _ _ _
    c.in_ok-push_train_offers.ensures c.in_ok-push_private_offers.ensures)
