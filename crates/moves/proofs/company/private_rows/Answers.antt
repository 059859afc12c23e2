use Rattle.std.proofs.Common.{◌++◌, List, ap, map, ◌∙◌}
use Rattle.moves.specs.CompanyRows.{private_orders, private_row}
use Rattle.moves.specs.declared.row.Row.{Row}
use Rattle.moves.proofs.company.private_rows.Goals as goal

pub returns : goal.returns
returns c =
    c.in_ok-push_privates.ensures
    ∙ ap (λ (rows : List Row). rows ++ map (private_row c.args.history.now c.args.company) private_orders)
    c.new-rows.ensures.items
