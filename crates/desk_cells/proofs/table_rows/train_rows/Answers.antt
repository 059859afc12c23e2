use Rattle.std.proofs.Common.{◌∙◌, ◌++◌, ◌∷◌, [], ap, sym, map, take, List}
use Rattle.std.proofs.lemmas.List.{map_more}
use Rattle.desk_cells.specs.Rows.{train_row}
use Rattle.desk_cells.specs.declared.field.TableRow.{TableRow}
use Rattle.desk_cells.specs.declared.field.TableRow.TheVariants.{OfTrain}
use Rattle.desk_cells.specs.declared.rows.TrainRow.{TrainRow}
use Rattle.tables.specs.Train.{kinds}
use Rattle.tables.specs.declared.rolling_stock.Kind.{Kind}
use Rattle.desk_cells.proofs.table_rows.train_rows.Goals as goal

-- the row of one more kind
pub loop-kind-preserved : goal.loop-kind-preserved
loop-kind-preserved c =
    let row_of : Kind → TableRow = λ kind. OfTrain (train_row c.args.view.now.events kind) in
    let index = c.loop-kind.kind-index in
    c.in_ok-push_train.ensures
    ∙ ap (λ (rows : List TableRow). rows ++ OfTrain c.train_row.result ∷ []) c.loop-kind.invariant
    ∙ ap (λ (row : TrainRow). map row_of (take index kinds) ++ OfTrain row ∷ []) c.train_row.ensures
    ∙ sym (map_more row_of kinds index _ c.loop-kind-test.true)
