use Rattle.std.proofs.Common.{◌≡◌, map, take}
use Rattle.desk_cells.specs.Rows.{company_row}
use Rattle.desk_cells.specs.declared.field.TableRow.TheVariants.{OfCompany}
use Rattle.desk_cells.proofs.table_rows.company_rows.Given as goal

-- the rows so far
abbrev pub invariant-loop-company : goal.invariant-loop-company
invariant-loop-company l = l.rows.items ≡ map (λ company. OfCompany (company_row l.view l.before company)) (take l.company-index l.order)
