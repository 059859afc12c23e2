use Rattle.std.proofs.Common.{length}
use Rattle.desk_why.proofs.figures.+first_sold.Given as goal

abbrev pub decreases-first_sold : goal.decreases-first_sold
decreases-first_sold l = length l.kinds.now
