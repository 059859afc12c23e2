use Rattle.moves.proofs.RowLemmas.{rows_done, rows_next, rows_none}
use Rattle.moves.specs.StockRows.{orders_of, orders_of_companies, stock_row}
use Rattle.tables.specs.Roster.{companies}
use Rattle.moves.proofs.stock.push_companies.Goals as goal

pub loop-company-init : goal.loop-company-init
loop-company-init c = rows_none (stock_row c.args.history.now c.args.seat c.args.bought) (orders_of c.args.history.now.events c.args.seat) _

pub loop-company-preserved : goal.loop-company-preserved
loop-company-preserved c =
    rows_next (stock_row c.args.history.now c.args.seat c.args.bought) (orders_of c.args.history.now.events c.args.seat) _ c.loop-company.company-index _ _ _ _
    c.loop-company-test.true c.loop-company.invariant c.in_ok-push_company.ensures

pub returns : goal.returns
unfolding orders_of_companies
returns c =
    rows_done (stock_row c.args.history.now c.args.seat c.args.bought) (orders_of c.args.history.now.events c.args.seat) companies
    c.loop-company.company-index _ _ c.loop-company-test.false c.loop-company.invariant
