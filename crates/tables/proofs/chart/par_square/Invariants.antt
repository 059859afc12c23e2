-- No row above marks the par value.
use Rattle.std.proofs.Common.{◌≡◌, ◌==◌, drop, find}
use Rattle.tables.specs.Chart.{par_square_of, par_squares, price_of}
use Rattle.tables.proofs.chart.par_square.Given as goal

abbrev pub invariant-loop-row : goal.invariant-loop-row
invariant-loop-row l =
    par_square_of l.par ≡ find (λ square. price_of square == l.par) (drop l.row par_squares)
