-- what is told of the rows so far
use Rattle.std.proofs.Common.{◌≡◌, map, take}
use Rattle.desk_may.proofs.teller.all_told.Given as goal

abbrev pub invariant-loop-row : goal.invariant-loop-row
invariant-loop-row g l = l.list.items ≡ map (g.T.Teller.told l.teller) (take l.row-index l.rows)
