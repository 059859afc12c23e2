use Rattle.std.proofs.Common.{◌≡◌, map, take}
use Rattle.desk_cells.specs.Rows.{private_row}
use Rattle.desk_cells.specs.declared.field.TableRow.TheVariants.{OfPrivate}
use Rattle.desk_cells.proofs.table_rows.private_rows.Given as goal

-- the rows so far
abbrev pub invariant-loop-private : goal.invariant-loop-private
invariant-loop-private l = l.rows.items ≡ map (λ private. OfPrivate (private_row l.view.events private)) (take l.private-index l.private-items)
