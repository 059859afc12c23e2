use Rattle.std.proofs.Common.{◌++◌, List, ap, map, ◌∙◌}
use Rattle.desk_may.specs.RaiseRows.{raise_row, raises}
use Rattle.moves.specs.declared.row.Row.{Row}
use Rattle.desk_may.proofs.raise_rows.raise_rows.Goals as goal

pub returns : goal.returns
returns c =
    c.in_ok-push_raises.ensures
    ∙ ap (λ (rows : List Row). rows ++ map (raise_row c.args.history.now c.args.by)
    (raises c.args.history.now.events c.args.by.president)) c.new-rows.ensures.items
