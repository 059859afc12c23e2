use Rattle.moves.proofs.RowLemmas.{rows_done, rows_next, rows_none}
use Rattle.moves.specs.StandingRows.{standing_row, train_offers, train_offers_of}
use Rattle.tables.specs.Roster.{companies}
use Rattle.moves.proofs.standing.push_train_offers.Goals as goal

pub loop-seller-init : goal.loop-seller-init
loop-seller-init c = rows_none (standing_row c.args.history.now.events c.args.seat) (train_offers_of c.args.history.now.events c.args.seat) _

pub loop-seller-preserved : goal.loop-seller-preserved
loop-seller-preserved c =
    rows_next (standing_row c.args.history.now.events c.args.seat) (train_offers_of c.args.history.now.events c.args.seat) _ c.loop-seller.seller-index _ _ _ _
    c.loop-seller-test.true c.loop-seller.invariant c.in_ok-push_train_offers_of.ensures

pub returns : goal.returns
unfolding train_offers
returns c =
    rows_done (standing_row c.args.history.now.events c.args.seat) (train_offers_of c.args.history.now.events c.args.seat) companies
    c.loop-seller.seller-index _ _ c.loop-seller-test.false c.loop-seller.invariant
