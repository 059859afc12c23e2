use Rattle.std.proofs.Common.{◌++◌, List, ap, map, ◌∙◌}
use Rattle.moves.specs.CompanyRows.{train_orders, train_row}
use Rattle.moves.specs.declared.row.Row.{Row}
use Rattle.moves.proofs.company.train_rows.Goals as goal

pub returns : goal.returns
returns c =
    c.in_ok-push_trains.ensures
    ∙ ap (λ (rows : List Row). rows ++ map (train_row c.args.history.now c.args.company) (train_orders c.args.history.now.events))
    c.new-rows.ensures.items
