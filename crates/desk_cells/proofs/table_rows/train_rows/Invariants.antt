use Rattle.std.proofs.Common.{◌≡◌, map, take}
use Rattle.desk_cells.specs.Rows.{train_row}
use Rattle.desk_cells.specs.declared.field.TableRow.TheVariants.{OfTrain}
use Rattle.desk_cells.proofs.table_rows.train_rows.Given as goal

-- the rows so far
abbrev pub invariant-loop-kind : goal.invariant-loop-kind
invariant-loop-kind l = l.rows.items ≡ map (λ kind. OfTrain (train_row l.view.events kind)) (take l.kind-index l.kind-items)
