use Rattle.moves.proofs.RowLemmas.{rows_done, rows_next, rows_none}
use Rattle.moves.specs.StandingRows.{standing_row, train_offer}
use Rattle.tables.specs.Roster.{companies}
use Rattle.moves.proofs.standing.push_offers_of_kind.Goals as goal

pub loop-buyer-init : goal.loop-buyer-init
loop-buyer-init c = rows_none (standing_row c.args.history.now.events c.args.seat) (train_offer c.args.history.now.events c.args.seat c.args.seller c.args.kind) _

pub loop-buyer-preserved : goal.loop-buyer-preserved
loop-buyer-preserved c =
    rows_next (standing_row c.args.history.now.events c.args.seat) (train_offer c.args.history.now.events c.args.seat c.args.seller c.args.kind) _ c.loop-buyer.buyer-index _ _ _ _
    c.loop-buyer-test.true c.loop-buyer.invariant c.in_ok-push_train_offer.ensures

pub returns : goal.returns
returns c =
    rows_done (standing_row c.args.history.now.events c.args.seat) (train_offer c.args.history.now.events c.args.seat c.args.seller c.args.kind) companies
    c.loop-buyer.buyer-index _ _ c.loop-buyer-test.false c.loop-buyer.invariant
