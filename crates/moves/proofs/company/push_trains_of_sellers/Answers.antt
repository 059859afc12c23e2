use Rattle.moves.proofs.RowLemmas.{rows_done, rows_next, rows_none}
use Rattle.moves.specs.CompanyRows.{train_of, train_row}
use Rattle.tables.specs.Roster.{companies}
use Rattle.moves.proofs.company.push_trains_of_sellers.Goals as goal

pub loop-seller-init : goal.loop-seller-init
loop-seller-init c = rows_none (train_row c.args.history.now c.args.company) (train_of c.args.history.now.events c.args.kind) _

pub loop-seller-preserved : goal.loop-seller-preserved
loop-seller-preserved c =
    rows_next (train_row c.args.history.now c.args.company) (train_of c.args.history.now.events c.args.kind) _ c.loop-seller.seller-index _ _ _ _
    c.loop-seller-test.true c.loop-seller.invariant c.in_ok-push_train_of.ensures

pub returns : goal.returns
returns c =
    rows_done (train_row c.args.history.now c.args.company) (train_of c.args.history.now.events c.args.kind) companies
    c.loop-seller.seller-index _ _ c.loop-seller-test.false c.loop-seller.invariant
