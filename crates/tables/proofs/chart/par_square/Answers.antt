use Rattle.tables.proofs.ParSquares.{on_chart, priced}
use Rattle.tables.proofs.chart.par_square.Goals as goal

pub returns-then-eq-clause-price : goal.returns-then-eq-clause-price
returns-then-eq-clause-price c =
    priced c.loop-row.row c.args.par c.par_value.result c.square.result c.par_value.ensures c.if-eq.ensures c.square.ensures

pub returns-then-eq-clause-on_chart : goal.returns-then-eq-clause-on_chart
returns-then-eq-clause-on_chart c = on_chart c.loop-row.row c.square.result c.square.ensures
